-- One row more of both bitmaps.
use Rattle.std.proofs.Common.{ℕ, ◌+◌, ap}
use Rattle.level_planes.proofs.PlaneLaws.{packed_more}
use Rattle.level_planes.proofs.pack_within.Goals as goal

pub loop-y-preserved : goal.loop-y-preserved
loop-y-preserved c =
    let a = c.args in
    let n = c.row_words-n in
    packed_more a.threshold a.lo a.hi a.w a.h a.from c.loop-y.y a.grey.now a.to (a.to + c.bitmap_words.result) n.result a.words.now c.loop-y.words _ _
    (ap (λ (m : ℕ). a.to + m) c.bitmap_words.ensures) n.ensures c.loop-y-test.true c.loop-y.invariant c.pack_row.ensures c.pack_row-in-loop-y.ensures
