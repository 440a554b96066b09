-- The shape's number stands for its three tests.
use Rattle.std.proofs.Common.{sym, ◌∙◌}
use Rattle.rules.specs.Refusals.{bad_tolerance}
use Rattle.rules.proofs.RefusalLaws.{err-number, ok-number}
use Rattle.live.specs.Steps.{bad_bracket}
use Rattle.held_numbers.proofs.BadLaws.{shape-bad, shape-good}
use Rattle.held_numbers.proofs.bad_bracket.Goals as goal

pub returns-then-is_err : goal.returns-then-is_err
unfolding bad_bracket
returns-then-is_err c =
    let b = c.args.b in
    sym (shape-bad b.w b.h b.s _ _ c.shape_refusal.ensures.number (err-number _ (sym c.is_err.ensures.value ∙ c.if-is_err.true)))

pub returns : goal.returns
unfolding bad_bracket bad_tolerance
returns c =
    let b = c.args.b in
    rw c.bad_percentile.ensures (sym (shape-good b.w b.h b.s _ _ c.shape_refusal.ensures.number (ok-number _ (sym c.is_err.ensures.value ∙ c.if-is_err.false))))
