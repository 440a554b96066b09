-- An accepted add finds numbers within their limits, and room for a frame.
use Rattle.std.proofs.Common.{refl, sym}
use Rattle.std.proofs.lemmas.Result.{err_from_is_err_and}
use lib.ListN.{length}
use Rattle.rules.specs.Levels.{least_move_order}
use Rattle.rules.proofs.RefusalLaws.{number-nonzero}
use Rattle.live.specs.Held.{memory_of, bracket_of}
use Rattle.live.specs.Steps.{Call, bad_held, number_of, made}
use Rattle.live.proofs.LimitLaws.{held-ok, add_ok}
use Rattle.live.proofs.StepLaws.{refused-work, accepted-work}
use Rattle.live_add.proofs.add.Goals as goal

pub returns-in_err-add_refusal : goal.returns-in_err-add_refusal
unfolding number_of
returns-in_err-add_refusal c =
    let a = c.args in
    let e = c.in_err-add_refusal in
    let p = err_from_is_err_and c.from_residual.result c.from_residual.ensures.1 in
    rw (p.1, p.2)
    (refused-work least_move_order (memory_of a.held.now a.newest.now) (Call.Add a.raster.now (length a.grey.now) (length a.words.now)) _
    e.ensures (number-nonzero e.field-0.0) a.grey.now a.words.now)

pub grow-requires-clause-limits : goal.grow-requires-clause-limits
grow-requires-clause-limits c =
    let l = c.args.held.now in
    (held-ok l (add_ok (bad_held l) (bracket_of l) _ _ _ _ _ (sym c.in_ok-add_refusal.ensures)).limits).0

pub grow-requires-clause-accepted : goal.grow-requires-clause-accepted
grow-requires-clause-accepted c =
    let l = c.args.held.now in
    let ok = add_ok (bad_held l) (bracket_of l) _ _ _ _ _ (sym c.in_ok-add_refusal.ensures) in
    rw ok.limits at ok

pub returns : goal.returns
unfolding number_of made
returns c =
    let a = c.args in
    let g = c.grow in
    accepted-work least_move_order (memory_of a.held.now a.newest.now) (Call.Add a.raster.now (length a.grey.now) (length a.words.now)) 0
    c.in_ok-add_refusal.ensures refl g.new.held g.new.newest a.grey.now _ a.words.now _ g.ensures
