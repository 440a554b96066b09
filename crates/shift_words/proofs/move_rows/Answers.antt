-- The interiors of all rows, then the columns before and after them.
use Rattle.shift_words.specs.MovedParts.{moved_rows}
use Rattle.shift_words.proofs.MovedPartLaws.{parts_whole}
use Rattle.shift_words.proofs.move_rows.Goals as goal

pub returns : goal.returns
returns c =
    let a = c.args in
    parts_whole a.to a.h a.m (moved_rows a.src.now a.from a.m) a.dst.now c.move_interiors.new.dst c.move_columns.new.dst c.move_columns-2.new.dst
    c.move_interiors.ensures c.move_columns.ensures c.move_columns-2.ensures
