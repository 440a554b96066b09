-- The words by columns, turned, are the row's.
use Rattle.rules.specs.Bitmaps.{row_words}
use Rattle.pack.proofs.OutsideLaws.{row-turned}
use Rattle.pack.proofs.packed_rows.pack_row.Goals as goal

pub returns : goal.returns
returns c =
    let a = c.args in
    row-turned a.lo a.hi a.grey.now a.from a.w a.to (row_words a.w) a.out.now _ _ c.pack_columns.ensures (rw c.row_words-n.ensures at c.turn_row.ensures)
