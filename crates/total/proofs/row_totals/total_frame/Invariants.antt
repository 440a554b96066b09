-- The count is the sum of the rows passed.
use Rattle.std.proofs.Common.{◌≡◌}
use Rattle.rules.specs.Sums.{sum, row_sum}
use Rattle.rules.specs.Bitmaps.{bit_at}
use Rattle.total.proofs.row_totals.total_frame.Given as goal

abbrev pub invariant-loop-y : goal.invariant-loop-y
invariant-loop-y l = l.count ≡ sum l.y (row_sum l.w (bit_at l.w l.h l.bitmap))
