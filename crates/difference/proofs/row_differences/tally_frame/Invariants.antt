-- The tally is the sum of the rows passed.
use Rattle.std.proofs.Common.{◌≡◌, ◌+◌, ◌*◌}
use Rattle.rules.specs.Sums.{sum}
use Rattle.differing.specs.RowDifferences.{pair_line}
use Rattle.difference.proofs.row_differences.tally_frame.Given as goal

abbrev pub invariant-loop-y : goal.invariant-loop-y
invariant-loop-y l = l.both ≡ sum l.y (pair_line l.pair l.m.w l.h (l.m.q * 64 + l.m.r) l.up)
