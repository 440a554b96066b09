-- The count is what the full words passed add to the row's sum.
use Rattle.std.proofs.Common.{◌+◌, ◌*◌}
use Rattle.words.specs.Rows.{row_bit}
use Rattle.popcount.specs.RowCounts.{Adds}
use Rattle.total.proofs.row_totals.row_total.Given as goal

abbrev pub invariant-loop-word : goal.invariant-loop-word
invariant-loop-word l = Adds (row_bit l.bitmap l.base (l.last * 64 + l.rest)) 0 l.word-index l.count
