-- An accepted drop finds a frame, and numbers within their limits.
use Rattle.std.proofs.Common.{refl, sym}
use Rattle.std.proofs.lemmas.Result.{err_from_is_err_and}
use Rattle.rules.specs.Levels.{least_move_order}
use Rattle.rules.proofs.RefusalLaws.{number-nonzero}
use Rattle.live.specs.Held.{memory_of, bracket_of}
use Rattle.live.specs.Steps.{Call, bad_held, number_of, shrunk, made}
use Rattle.live.proofs.LimitLaws.{held-ok, drop-ok}
use Rattle.live.proofs.StepLaws.{refused-leaves, accepted-leaves}
use Rattle.live_drop.proofs.drop_oldest.Goals as goal

pub returns-in_err-drop_refusal : goal.returns-in_err-drop_refusal
unfolding number_of
returns-in_err-drop_refusal c =
    let a = c.args in
    let e = c.in_err-drop_refusal in
    let p = err_from_is_err_and c.from_residual.result c.from_residual.ensures.1 in
    rw (p.1, p.2)
    (refused-leaves least_move_order (memory_of a.held.now a.newest.now) Call.Drop _ e.ensures (number-nonzero e.field-0.0))

pub shrink-requires-clause-held_len : goal.shrink-requires-clause-held_len
shrink-requires-clause-held_len c =
    let l = c.args.held.now in
    (drop-ok (bad_held l) (bracket_of l) _ _ (sym c.in_ok-drop_refusal.ensures)).exact1

pub shrink-requires-clause-bracket_ok : goal.shrink-requires-clause-bracket_ok
shrink-requires-clause-bracket_ok c =
    let l = c.args.held.now in
    let ok = drop-ok (bad_held l) (bracket_of l) _ _ (sym c.in_ok-drop_refusal.ensures) in
    ((held-ok l ok.limits).0, ok.some)

pub returns : goal.returns
unfolding number_of made shrunk
returns c =
    let a = c.args in
    accepted-leaves least_move_order (memory_of a.held.now a.newest.now) Call.Drop 0 c.in_ok-drop_refusal.ensures refl
    c.shrink.new.held a.newest.now (λ i. memory_of (c.shrink.ensures i) a.newest.now)
