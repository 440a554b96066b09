-- The first k results are written, and nothing else has changed.
use Rattle.rules.specs.Buffers.{RowAt}
use Rattle.half_block.specs.HalfPlaces.{half_at}
use Rattle.halve.proofs.halving.halve_rest.Given as goal

abbrev pub invariant-loop-k : goal.invariant-loop-k
invariant-loop-k l = RowAt l.to (half_at l.src l.top l.bottom) l.initial.dst l.k l.dst
