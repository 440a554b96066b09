-- The counts of the lent part give the frame's thresholds, so the two intervals give the frame's planes.
use Rattle.std.proofs.Common.{◌∙◌}
use Rattle.level_planes.proofs.PlaneLaws.{part-threshold, part-excludes, packed-at}
use Rattle.level_planes.proofs.bitmaps_within.Goals as goal

pub returns : goal.returns
returns c =
    let a = c.args in
    let s = a.setup in
    let counts = c.histogram-counts.ensures in
    let t = c.threshold_of-threshold in
    packed-at s a.from a.grey.now a.to a.words.now _ t.result c.excluded-out.result.lo c.excluded-out.result.hi
    (λ i. (c.type_inv.grey i).fits)
    (t.ensures _ counts ∙ part-threshold s.w s.h a.from a.grey.now c.requires.frame s.percentile)
    (part-excludes s.w s.h a.from a.grey.now c.requires.frame s.exclusion s.percentile _ _ (c.excluded-out.ensures _ counts (t.ensures _ counts)))
    c.pack_within.ensures
