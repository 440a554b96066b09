-- The first `v` places of the first table hold the sums of the four, the others what they held.
use Rattle.rules.specs.Buffers.{RowAt}
use Rattle.histogram.specs.Tables.{four}
use Rattle.histogram.proofs.merge.Given as goal

abbrev pub invariant-loop-v : goal.invariant-loop-v
invariant-loop-v l = RowAt 0 (four l.initial.a l.b l.c l.d) l.initial.a l.v l.a
