-- `any` is std's list_any, which is what the definition is.
use Rattle.std.proofs.Common.{◌∙◌, sym, rules, tests}
use Rattle.std.proofs.lemmas.Iterator.{YieldsList-from_slice}
use Rattle.std.proofs.lemmas.Iterator.Search.{any_from_yields_List}
use Rattle.area.specs.Common.{outside}
use Rattle.area.proofs.SideLaws.{some-any}
use Rattle.area.proofs.ranges.some_outside.Goals as goal

pub returns : goal.returns
returns c =
    any_from_yields_List outside _ _ c.any.result c.any.ensures.ran (YieldsList-from_slice c.args.offsets.now cc) (λ x b q k. search (rules, tests))
    ∙ sym (some-any c.args.offsets.now)
