-- The rows above, those that have a source, and the rows below, one after the other.
use Rattle.std.proofs.Common.{◌-◌, refl, arith}
use Rattle.shift_rows.proofs.PlacedRowLaws.{parts, parts-fit, parts-room, all_placed}
use Rattle.shift_rows.proofs.place_rows.Goals as goal

pub move_blocks-requires-clause-source : goal.move_blocks-requires-clause-source
move_blocks-requires-clause-source c =
    let a = c.args in
    let above = c.min-above.result in
    let below = c.min-below.result in
    omega (arith, parts-room a.m.n a.h above below (a.h - above - below) refl (parts-fit a.h a.down above below (parts a.h a.down above below (omega arith) (omega arith))))

pub returns : goal.returns
returns c =
    let a = c.args in
    let above = c.min-above.result in
    let below = c.min-below.result in
    all_placed a.src.now a.h a.m a.down above below (parts a.h a.down above below (omega arith) (omega arith)) a.dst.now
    c.clear_words.new.dst c.move_blocks.new.dst c.clear_words-2.new.dst c.clear_words.ensures c.move_blocks.ensures c.clear_words-2.ensures
