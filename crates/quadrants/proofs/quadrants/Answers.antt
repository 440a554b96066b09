-- A refused call answers its number and touches nothing; an accepted one has the sizes that the core requires.
use Rattle.std.proofs.Common.{refl, sym}
use Rattle.std.proofs.lemmas.Result.{err_from_is_err_and}
use lib.ListN.{length}
use Rattle.rules.specs.declared.Exclusion.{Exclusion}
use Rattle.rules.specs.Levels.{least_move_order}
use Rattle.rules.specs.Calls.{tolerance_setup}
use Rattle.rules.proofs.RefusalLaws.{number-nonzero}
use Rattle.quadrant_refusals.proofs.QuadrantRefusalLaws.{unrefused, quadrants-ok}
use Rattle.four_quadrants.specs.FourOffsets.{four_offsets}
use Rattle.quadrants.proofs.LeftLaws.{refused-left, accepted-left}
use Rattle.quadrants.proofs.quadrants.Goals as goal

pub returns-in_err-quadrants_refusal : goal.returns-in_err-quadrants_refusal
returns-in_err-quadrants_refusal c =
    let a = c.args in
    let e = c.in_err-quadrants_refusal in
    let p = err_from_is_err_and c.from_residual.result c.from_residual.ensures.1 in
    rw (p.1, p.2)
    (refused-left _ _ (four_offsets least_move_order (tolerance_setup a.w a.h a.s a.tolerance a.percentile) a.first.now a.second.now)
    a.offsets.now a.grey.now a.words.now (rw c.tolerance_refusal.ensures at e.ensures) (number-nonzero e.field-0.0))

pub align_quadrants-turned-requires-clause-accepted : goal.align_quadrants-turned-requires-clause-accepted
align_quadrants-turned-requires-clause-accepted c =
    let a = c.args in
    quadrants-ok a.w a.h a.s (Exclusion.Tolerance a.tolerance) a.percentile (length a.first.now) (length a.second.now) (length a.offsets.now)
    (length a.grey.now) (length a.words.now) (sym (rw c.tolerance_refusal.ensures at c.in_ok-quadrants_refusal.ensures))

pub align_quadrants-turned-requires-clause-room : goal.align_quadrants-turned-requires-clause-room
align_quadrants-turned-requires-clause-room c =
    let a = c.args in
    (unrefused a.w a.h a.s _ a.percentile (length a.first.now) (length a.second.now) (length a.offsets.now) (length a.grey.now) (length a.words.now)
    (sym (rw c.tolerance_refusal.ensures at c.in_ok-quadrants_refusal.ensures))).room

pub returns : goal.returns
returns c =
    let a = c.args in
    let r = c.align_quadrants-turned in
    accepted-left _ _ least_move_order (tolerance_setup a.w a.h a.s a.tolerance a.percentile) a.first.now a.second.now
    a.offsets.now r.new.offsets a.grey.now _ a.words.now _ r.result r.result
    (sym (rw c.tolerance_refusal.ensures at c.in_ok-quadrants_refusal.ensures)) c.places-order.ensures refl r.ensures.turned r.ensures.offsets
