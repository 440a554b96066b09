use Rattle.std.proofs.Common.{◌≤◌, nat_abs, arith, ◌∙◌}
use Rattle.area.specs.Sides.{axis_of}
use Rattle.area.proofs.SideLaws.{read_back, whole_is, whole-fits, whole-read, high-none, high_turn}
use Rattle.area.proofs.sides.high_side.Goals as goal

pub loop-k-init : goal.loop-k-init
loop-k-init c = whole_is c.args.side (omega arith) ∙ high-none _ _

pub overflow_add-whole : goal.overflow_add-whole
overflow_add-whole c =
    let a = c.args in
    whole-fits a.side (axis_of a.offsets.now a.axis c.loop-k.k) (omega arith) (c.requires.in_range.near _ (omega arith))

pub loop-k-preserved : goal.loop-k-preserved
loop-k-preserved c =
    let a = c.args in
    let near : nat_abs (axis_of a.offsets.now a.axis c.loop-k.k) ≤ 32768 = c.requires.in_range.near _ (omega arith) in
    read_back _ c.min-high.type_inv
    ∙ c.min-high.ensures.value
    ∙ high_turn a.side c.loop-k.k (axis_of a.offsets.now a.axis) _ _ c.loop-k.invariant (whole-read a.side (axis_of a.offsets.now a.axis c.loop-k.k) (omega arith) near)
