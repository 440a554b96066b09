use Rattle.std.proofs.Common.{◌∙◌, rules}
use Rattle.area.specs.Sides.{axis_of}
use Rattle.area.proofs.SideLaws.{read_back, low-none, low_turn}
use Rattle.area.proofs.sides.low_side.Goals as goal

pub loop-k-init : goal.loop-k-init
loop-k-init c = low-none _

pub loop-k-preserved : goal.loop-k-preserved
loop-k-preserved c =
    read_back _ c.max-low.type_inv ∙ c.max-low.ensures.value ∙ low_turn c.loop-k.k (axis_of c.args.offsets.now c.args.axis) _ _ c.loop-k.invariant (read_back _ (search rules))
