-- The setting's own interval, once its rule is known.
use Rattle.std.proofs.Common.{arith}
use Rattle.threshold.specs.Flat.{threshold_in}
use Rattle.level_planes.proofs.ExcludedLaws.{tolerance-excludes, band-excludes}
use Rattle.level_planes.proofs.exclusion.excluded.Goals as goal

pub returns-in-Tolerance : goal.returns-in-Tolerance
returns-in-Tolerance c l counted at =
    let a = c.args in
    let byte = c.ranges.threshold in
    let ends = c.around.ensures in
    rw c.in-Tolerance.is
    (tolerance-excludes _ a.threshold c.around.result.lo c.around.result.hi (λ p. threshold_in p l) a.percentile (omega arith) at ends.0 ends.1)

pub returns-in-Band : goal.returns-in-Band
returns-in-Band c l counted at =
    let ends = c.between.ensures in
    rw c.in-Band.is (band-excludes _ c.args.percentile c.between.result.lo c.between.result.hi l (ends.lo l counted) (ends.hi l counted))
