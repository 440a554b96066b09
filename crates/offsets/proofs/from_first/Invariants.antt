-- The sum is frame k's offset from frame 0.
use Rattle.std.proofs.Common.{◌≡◌}
use Rattle.rules.specs.Series.{frame_offset}
use Rattle.offsets.specs.PairOffsets.{pair_offset}
use Rattle.offsets.proofs.from_first.Given as goal

abbrev pub invariant-loop-k : goal.invariant-loop-k
invariant-loop-k l = l.sum ≡ frame_offset (pair_offset l.pairs) 0 l.k
