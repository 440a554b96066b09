-- The conversions put both quadrants' grey frames into the memory; the recursion's answer is that of the cropped rasters.
use Prim.Native.Nat.{◌*◌, ◌/◌}
use native.Mathlib.Omega.{arith}
use Rattle.rules.specs.Levels.{arranged}
use Rattle.rules.proofs.AlignmentLaws.{level-pixels-at}
use Rattle.quadrant.proofs.QuadrantLaws.{crop-room, quadrant-offset}
use Rattle.quadrant.proofs.align_quadrant.Goals as goal

pub convert_crop-requires-clause-room : goal.convert_crop-requires-clause-room
convert_crop-requires-clause-room c =
    let S = c.args.setup in
    crop-room S.w S.h c.args.quadrant c.quadrant_crop-crop.result c.quadrant_crop-crop.ensures 0 _
    (omega (arith, level-pixels-at S.s (S.w / 2) (S.h / 2), c.requires.accepted.quadrant.greys))

pub convert_crop-requires-2-clause-room : goal.convert_crop-requires-2-clause-room
convert_crop-requires-2-clause-room c =
    let S = c.args.setup in
    crop-room S.w S.h c.args.quadrant c.quadrant_crop-crop.result c.quadrant_crop-crop.ensures (S.w / 2 * (S.h / 2)) _
    (omega (arith, level-pixels-at S.s (S.w / 2) (S.h / 2), c.requires.accepted.quadrant.greys, c.convert_crop.ensures.len))

pub returns : goal.returns
returns c =
    let a = c.args in
    quadrant-offset (arranged a.order.now.places) a.setup a.quadrant c.quadrant_crop-crop.result c.quadrant_crop-crop.ensures a.first.now a.second.now
    a.grey.now _ _ _ _ _ _ _ c.align_frames.result c.convert_crop.ensures c.convert_crop-2.ensures c.align_frames.ensures
