-- The sum fits since the sizes are within their limits; the flags are the definition's conditions.
use Rattle.std.proofs.Common.{◌∙◌, arith}
use Rattle.std.proofs.lemmas.Result.{err_from_is_err_and}
use Rattle.text.proofs.DigitLaws.{digits-at-most-ten}
use Rattle.rules.proofs.RefusalLaws.{or_else-none, or_else-first, refused-number}
use Rattle.ppm_write.specs.P6Writes.{write_refusal}
use Rattle.ppm_write.proofs.P6WriteLaws.{length-header}
use Rattle.ppm_write.proofs.writing.write_refusal.Goals as goal

pub returns-in_err-size_refusal : goal.returns-in_err-size_refusal
unfolding write_refusal
returns-in_err-size_refusal c =
    let e = c.in_err-size_refusal in
    let p = err_from_is_err_and c.from_residual.result c.from_residual.ensures.1 in
    rw (p.1, p.2) (e.ensures.number ∙ or_else-first _ _ (refused-number e.field-0.0 _ e.ensures.number))

pub overflow_add-needed : goal.overflow_add-needed
overflow_add-needed c =
    let a = c.args in
    omega (arith, c.in_ok-size_refusal.ensures.known, length-header a.w a.h, digits-at-most-ten a.w, digits-at-most-ten a.h, digits-at-most-ten 255)

pub returns : goal.returns
unfolding write_refusal
returns c = simp (← c.in_ok-size_refusal.ensures.number, ← c.header_length.ensures) (simp or_else-none at c.lowest.ensures)
