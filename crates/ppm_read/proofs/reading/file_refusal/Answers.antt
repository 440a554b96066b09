-- Each return rewrites with the header and with the tests on the way there; a good header ends in the file.
use Rattle.std.proofs.Common.{Some, None, ◌∙◌}
use Rattle.std.proofs.lemmas.Result.{err_from_is_err_and}
use Rattle.rules.proofs.RefusalLaws.{or_else-none, or_else-first, refused-number}
use Rattle.ppm_read.specs.P6.{header_refusal, p6_refusal}
use Rattle.p6_header.proofs.GrammarLaws.{by-grammar}
use Rattle.p6_header.proofs.HeaderLaws.{good-within}
use Rattle.ppm_read.proofs.reading.file_refusal.Goals as goal

pub returns-in_default : goal.returns-in_default
unfolding p6_refusal header_refusal
returns-in_default c = rw (by-grammar.only _ None c.in_default.ensures)

pub returns-in_err-size_refusal : goal.returns-in_err-size_refusal
unfolding p6_refusal header_refusal
returns-in_err-size_refusal c =
    let e = c.in_err-size_refusal in
    let p = err_from_is_err_and c.from_residual.result c.from_residual.ensures.1 in
    rw (p.1, p.2, by-grammar.only _ (Some c.in-Some.header) c.in-Some.ensures)
    (e.ensures.number ∙ or_else-first _ _ (refused-number e.field-0.0 _ e.ensures.number))

pub overflow_sub-raster : goal.overflow_sub-raster
overflow_sub-raster c = good-within _ _ (by-grammar.only _ (Some c.in-Some.header) c.in-Some.ensures)

pub returns : goal.returns
unfolding p6_refusal header_refusal
returns c = rw (by-grammar.only _ (Some c.in-Some.header) c.in-Some.ensures, ← c.in_ok-size_refusal.ensures.number) (simp or_else-none at c.lowest.ensures)
