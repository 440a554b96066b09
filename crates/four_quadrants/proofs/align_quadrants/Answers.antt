-- The four offsets are written, read again and compared.
use mathlib.Core.Path.{ap, ◌∙◌}
use Rattle.rotation.specs.Turns.{turned}
use Rattle.four_quadrants.proofs.FourLaws.{four-small, four-read}
use Rattle.four_quadrants.proofs.align_quadrants.Goals as goal

pub four_turned-requires-clause-near : goal.four_turned-requires-clause-near
four_turned-requires-clause-near c =
    let a = c.args in
    four-small a.order.now.places a.setup a.first.now a.second.now a.offsets.now _ c.requires.accepted.quadrant.shape.halvings c.align_each.ensures

pub returns-clause-turned : goal.returns-clause-turned
returns-clause-turned c =
    let a = c.args in
    c.four_turned.ensures
    ∙ ap turned (four-read a.order.now.places a.setup a.first.now a.second.now a.offsets.now _ c.requires.accepted.quadrant.shape.halvings c.align_each.ensures)
