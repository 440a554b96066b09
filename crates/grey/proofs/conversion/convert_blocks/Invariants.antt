-- The grey values of the first b blocks are written, and nothing else has changed.
use Rattle.std.proofs.Common.{◌*◌}
use Rattle.rules.specs.Buffers.{RowAt}
use Rattle.grey.specs.GreyPlaces.{grey_at}
use Rattle.grey.proofs.conversion.convert_blocks.Given as goal

abbrev pub invariant-loop-b : goal.invariant-loop-b
invariant-loop-b l = RowAt l.to (grey_at l.raster) l.initial.grey (32 * l.b) l.grey
