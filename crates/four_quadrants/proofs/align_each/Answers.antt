-- The array has the four in the order of their offsets; each is written behind those before it.
use mathlib.Core.Path.{◌≡◌, ap, ◌∙◌}
use Rattle.rules.specs.Frames.{written_over}
use Rattle.rules.specs.Levels.{arranged}
use Rattle.four_quadrants.proofs.FourLaws.{quadrant-in, none_written, next-written, all-four}
use Rattle.four_quadrants.proofs.align_each.Goals as goal
use native.Mathlib.Omega.{arith}

pub loop-k-init : goal.loop-k-init
loop-k-init c = none_written _ _ _ _ _

pub loop-k-preserved : goal.loop-k-preserved
loop-k-preserved c =
    let a = c.args in
    let l = c.loop-k in
    next-written (arranged a.order.now.places) a.setup a.first.now a.second.now a.offsets.now l.offsets _ l.k _ c.align_quadrant-m.result
    (omega arith) c.requires.room l.invariant (quadrant-in l.k _ (omega arith)) c.align_quadrant-m.ensures c.put_offset.ensures

pub returns : goal.returns
returns c =
    let a = c.args in
    let e : c.loop-k.k ≡ 4 = omega arith in
    rw e at c.loop-k.invariant ∙ ap (λ l. written_over l a.offsets.now) (all-four (arranged a.order.now.places) a.setup a.first.now a.second.now)
