-- An accepted start has sizes and settings within their limits, and 36 numbers; an empty bracket has no pair.
use Rattle.std.proofs.Common.{refl, sym, ◌∙◌, arith}
use Rattle.std.proofs.lemmas.Result.{err_from_is_err_and}
use Rattle.rules.specs.Levels.{still, least_move_order}
use Rattle.rules.proofs.RefusalLaws.{number-nonzero}
use Rattle.live.specs.Held.{memory_of, held_pair}
use Rattle.live.specs.Steps.{Call, number_of, empty_of, started, made}
use Rattle.live.proofs.HeldLaws.{layout-ext}
use Rattle.live.proofs.LimitLaws.{start-ok}
use Rattle.live.proofs.StepLaws.{refused-leaves, accepted-leaves}
use Rattle.live_start.proofs.start.Goals as goal

pub returns-in_err-start_refusal : goal.returns-in_err-start_refusal
unfolding number_of
returns-in_err-start_refusal c =
    let a = c.args in
    let e = c.in_err-start_refusal in
    let p = err_from_is_err_and c.from_residual.result c.from_residual.ensures.1 in
    rw (p.1, p.2)
    (refused-leaves least_move_order (memory_of a.held.now a.newest.now) (Call.Start a.w a.h a.s a.tolerance a.percentile) _ e.ensures (number-nonzero e.field-0.0))

pub put_bracket-requires-clause-held_len : goal.put_bracket-requires-clause-held_len
put_bracket-requires-clause-held_len c =
    let a = c.args in
    (start-ok a.w a.h a.s a.tolerance a.percentile _ _ (sym c.in_ok-start_refusal.ensures)).1

pub put_bracket-requires-clause-bracket_ok : goal.put_bracket-requires-clause-bracket_ok
put_bracket-requires-clause-bracket_ok c =
    let a = c.args in
    let ok = start-ok a.w a.h a.s a.tolerance a.percentile _ _ (sym c.in_ok-start_refusal.ensures) in
    record { shape = ok.0.shape; tolerance = ok.0.tolerance; percentile = ok.0.percentile; frames = omega arith }

pub returns : goal.returns
unfolding number_of made started
returns c =
    let a = c.args in
    let numbers = c.put_bracket.ensures ∙ layout-ext (empty_of a.w a.h a.s a.tolerance a.percentile) (held_pair a.held.now) (λ k. still) (λ k l. absurd (omega arith)) in
    accepted-leaves least_move_order (memory_of a.held.now a.newest.now) (Call.Start a.w a.h a.s a.tolerance a.percentile) 0 c.in_ok-start_refusal.ensures refl
    c.put_bracket.new.held a.newest.now (λ i. memory_of (numbers i) a.newest.now)
