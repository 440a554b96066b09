-- The tests of the held numbers stand first; what these say is within its limits then.
use Rattle.std.proofs.Common.{refl, sym, ◌∙◌}
use Rattle.std.proofs.lemmas.Result.{err_from_is_err_and}
use Rattle.rules.proofs.RefusalLaws.{number-nonzero}
use Rattle.live.specs.Steps.{tell_number}
use Rattle.live_refusals.proofs.LiveRefusalLaws.{held_first, held-pass, held-limits}
use Rattle.live_refusals.proofs.tell_refusal.Goals as goal

pub returns-in_err-held_refusal : goal.returns-in_err-held_refusal
unfolding tell_number
returns-in_err-held_refusal c =
    let e = c.in_err-held_refusal in
    let p = err_from_is_err_and c.from_residual.result c.from_residual.ensures.1 in
    rw (p.1, p.2) (held_first c.args.held.now _ e.ensures (number-nonzero e.field-0.0) _)

pub tell_rest-requires : goal.tell_rest-requires
tell_rest-requires c = held-limits c.args.held.now _ c.in_ok-held_refusal.ensures refl c.bracket_of.result c.bracket_of.ensures

pub returns : goal.returns
unfolding tell_number
returns c =
    rw c.bracket_of.ensures at c.tell_rest.ensures ∙ sym (held-pass c.args.held.now _ c.in_ok-held_refusal.ensures refl _)
