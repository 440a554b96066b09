-- Demand 3 follows from what each call ensures. The rasters hold bytes.
use Rattle.std.proofs.Common.{arith}
use Rattle.rules.specs.RefusalNumbers.{coded}
use Rattle.series_twice.specs.Kinds.{order_by, settings_by}
use Rattle.series_twice.proofs.DemandLaws.{kind-arranged, demanded}
use Rattle.series_twice.proofs.align_twice.Goals as goal

pub returns-clause-demand : goal.returns-clause-demand
returns-clause-demand c =
    let a = c.args in
    let one = c.series_by-first in
    let two = c.series_by-second in
    demanded (order_by a.kind) (kind-arranged a.kind) (settings_by a.kind a.w a.h a.s a.n a.r a.percentiles.now) a.rasters1.now a.rasters2.now
    a.offsets1.now a.offsets2.now one.new.offsets two.new.offsets a.counts1.now a.counts2.now
    one.new.counts two.new.counts
    a.compared1.now a.compared2.now one.new.compared two.new.compared
    a.grey1.now one.new.grey a.grey2.now two.new.grey
    a.words1.now one.new.words a.words2.now two.new.words
    (coded one.result) (coded two.result)
    (λ i. let l = c.type_inv.rasters1 i in omega arith)
    (λ i. let l = c.type_inv.rasters2 i in omega arith)
    one.ensures two.ensures
