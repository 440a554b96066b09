-- The recursion's answer is that of the two frames that stand in the memory.
use native.Mathlib.Omega.{arith}
use Rattle.rules.specs.Levels.{arranged}
use Rattle.rules.proofs.AlignmentLaws.{level-pixels-at}
use Rattle.newest_frame.proofs.NewestLaws.{newest-aligned}
use Rattle.newest_frame.proofs.align_newest.Goals as goal

pub put_frames-requires-clause-h_bound : goal.put_frames-requires-clause-h_bound
put_frames-requires-clause-h_bound c =
    let S = c.args.setup in
    let k = c.requires.accepted in
    (k.shape.size.area, omega (arith, level-pixels-at S.s S.w S.h, k.greys))

pub returns : goal.returns
returns c =
    let a = c.args in
    newest-aligned (arranged a.order.now.places) a.setup a.newest.now _ a.raster.now _ _ _ _ _ _ _ c.align_frames.result c.put_frames.ensures
    c.align_frames.ensures
