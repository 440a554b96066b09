-- The first i grey values are written, and nothing else has changed.
use Rattle.rules.specs.Buffers.{RowAt}
use Rattle.grey.specs.GreyPlaces.{grey_from}
use Rattle.grey.proofs.conversion.convert_rest.Given as goal

abbrev pub invariant-loop-i : goal.invariant-loop-i
invariant-loop-i l = RowAt l.to (grey_from l.raster l.from) l.initial.grey l.i l.grey
