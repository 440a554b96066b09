-- The first y rows of the crop's grey frame are written, and nothing else has changed.
use Rattle.rules.specs.Greys.{grey_frame}
use Rattle.rules.specs.Buffers.{FrameAt}
use Rattle.crop.specs.Crops.{part}
use Rattle.crop.proofs.convert_crop.Given as goal

abbrev pub invariant-loop-y : goal.invariant-loop-y
invariant-loop-y l = FrameAt l.to l.crop.w (part l.crop (grey_frame l.w l.raster)) l.initial.grey l.y l.grey
