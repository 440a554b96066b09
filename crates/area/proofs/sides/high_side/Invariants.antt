-- high is the side of the first k frames.
use Rattle.std.proofs.Common.{◌≡◌}
use Rattle.area.specs.Common.{high_side}
use Rattle.area.specs.Sides.{axis_of}
use Rattle.area.proofs.sides.high_side.Given as goal

abbrev pub invariant-loop-k : goal.invariant-loop-k
invariant-loop-k l = l.high ≡ high_side l.side l.k (axis_of l.offsets l.axis)
