-- The shape's number stands first.
use Rattle.std.proofs.Common.{refl}
use Rattle.std.proofs.lemmas.Result.{err_from_is_err_and}
use Rattle.rules.proofs.RefusalLaws.{or_else-none, number-nonzero}
use Rattle.align_refusals.proofs.AlignRefusalLaws.{shape-first, shape-pass}
use Rattle.live.specs.Steps.{start_number}
use Rattle.live_refusals.proofs.start_refusal.Goals as goal

pub returns-in_err-shape_refusal : goal.returns-in_err-shape_refusal
unfolding start_number
returns-in_err-shape_refusal c =
    let a = c.args in
    let e = c.in_err-shape_refusal in
    let p = err_from_is_err_and c.from_residual.result c.from_residual.ensures.1 in
    rw (p.1, p.2) (shape-first a.w a.h a.s _ _ e.ensures.number (number-nonzero e.field-0.0))

pub returns : goal.returns
unfolding start_number
returns c =
    let a = c.args in
    simp (
      shape-pass a.w a.h a.s _ c.in_ok-shape_refusal.ensures.number refl,
      ← c.tolerance_refusal.ensures,
      ← c.bad_percentile.ensures,
    ) (simp or_else-none at c.lowest.ensures)
