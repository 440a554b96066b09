-- A number of the shape stands first.
use Rattle.std.proofs.lemmas.Result.{err_from_is_err_and}
use Rattle.rules.specs.RefusalNumbers.{number_of}
use Rattle.rules.specs.Refusals.{series_refusal}
use Rattle.rules.proofs.RefusalLaws.{number-nonzero}
use Rattle.align_refusals.proofs.AlignRefusalLaws.{shape-first}
use Rattle.align_refusals.proofs.series_refusal.Goals as goal

pub returns-in_err-shape_refusal : goal.returns-in_err-shape_refusal
unfolding series_refusal
returns-in_err-shape_refusal g c =
    let a = c.args in
    let e = c.in_err-shape_refusal in
    let p = err_from_is_err_and c.from_residual.result c.from_residual.ensures.1 in
    rw (p.1, g.met.E.Numbered.keeps e.field-0.0 p.0 p.2)
    (shape-first a.w a.h a.s (number_of e.field-0.0) _ e.ensures.number (number-nonzero e.field-0.0))
