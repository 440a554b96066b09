-- The results of the first b blocks are written, and nothing else has changed.
use Rattle.std.proofs.Common.{◌*◌}
use Rattle.rules.specs.Buffers.{RowAt}
use Rattle.half_block.specs.HalfPlaces.{half_at}
use Rattle.halve.proofs.halving.halve_blocks.Given as goal

abbrev pub invariant-loop-b : goal.invariant-loop-b
invariant-loop-b l = RowAt l.to (half_at l.src l.top l.bottom) l.initial.dst (32 * l.b) l.dst
