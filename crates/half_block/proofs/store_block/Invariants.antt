-- The first k results are stored, and nothing else has changed.
use Rattle.rules.specs.Buffers.{RowAt}
use Rattle.half_block.specs.HalfPlaces.{even_at}
use Rattle.half_block.proofs.store_block.Given as goal

abbrev pub invariant-loop-k : goal.invariant-loop-k
invariant-loop-k l = RowAt l.to (even_at l.all) l.initial.dst l.k l.dst
