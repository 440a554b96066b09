-- The tests of the held numbers stand first; what these say is within its limits then.
use Rattle.std.proofs.Common.{refl, sym, ◌∙◌}
use Rattle.std.proofs.lemmas.Result.{err_from_is_err_and}
use Rattle.rules.proofs.RefusalLaws.{number-nonzero}
use lib.Dec.{eqb}
use Rattle.live.specs.Held.{bracket_of}
use Rattle.live.specs.Steps.{bad_held, drop_number}
use Rattle.live_refusals.proofs.LiveRefusalLaws.{held_first, held-pass, held-limits, sixteen-twice}
use Rattle.live_refusals.proofs.drop_refusal.Goals as goal

pub returns-in_err-held_refusal : goal.returns-in_err-held_refusal
unfolding drop_number
returns-in_err-held_refusal c =
    let e = c.in_err-held_refusal in
    let p = err_from_is_err_and c.from_residual.result c.from_residual.ensures.1 in
    rw (p.1, p.2, sixteen-twice (bad_held c.args.held.now) (eqb (bracket_of c.args.held.now).frames 0)) (held_first c.args.held.now _ e.ensures (number-nonzero e.field-0.0) _)

pub drop_rest-requires : goal.drop_rest-requires
drop_rest-requires c = held-limits c.args.held.now _ c.in_ok-held_refusal.ensures refl c.bracket_of.result c.bracket_of.ensures

pub returns : goal.returns
unfolding drop_number
returns c =
    rw (sixteen-twice (bad_held c.args.held.now) (eqb (bracket_of c.args.held.now).frames 0))
    (rw c.bracket_of.ensures at c.drop_rest.ensures ∙ sym (held-pass c.args.held.now _ c.in_ok-held_refusal.ensures refl _))
