-- There are as many as there must be, and `any` looks at each.
use Rattle.std.proofs.Common.{sym, ◌∙◌, rules, tests}
use Rattle.std.proofs.lemmas.Iterator.{YieldsList-from_slice}
use Rattle.std.proofs.lemmas.Iterator.Search.{any_from_yields_List}
use borrow.Author.Tests.{eq-eqb, ne_eqb}
use Rattle.rules.specs.Refusals.{bad_percentile, bad_percentiles}
use Rattle.align_refusals.proofs.AlignRefusalLaws.{some-bad-any}
use Rattle.align_refusals.proofs.bad_percentiles.Goals as goal

pub returns-then-percentiles-n : goal.returns-then-percentiles-n
unfolding bad_percentiles
returns-then-percentiles-n c = simp (ne_eqb _ _ c.if-percentiles-n.true)

pub returns-else-percentiles-n : goal.returns-else-percentiles-n
unfolding bad_percentiles
returns-else-percentiles-n c =
    let ps = c.args.percentiles.now in
    simp (eq-eqb _ _ c.if-percentiles-n.false)
    (any_from_yields_List bad_percentile _ _ c.any.result c.any.ensures.ran (YieldsList-from_slice ps cc) (λ x b q k. search (rules, tests)) ∙ sym (some-bad-any ps))
