-- `any` looks at each number of the pairs.
use Rattle.std.proofs.Common.{◌+◌, ◌-◌, ◌*◌, ltb, nat_abs, take, drop, ◌∙◌, arith, rules, tests}
use Rattle.std.proofs.lemmas.List.{length-drop}
use Rattle.std.proofs.lemmas.Iterator.{YieldsList-from_slice}
use Rattle.std.proofs.lemmas.Iterator.Search.{any_from_yields_List}
use Rattle.held_numbers.proofs.NumberLaws.{some-far-any}
use Rattle.held_numbers.proofs.some_far.Goals as goal

pub returns : goal.returns
returns c =
    let a = c.args in
    any_from_yields_List (λ x. ltb a.bound (nat_abs x)) _ _ c.any.result c.any.ensures.ran (YieldsList-from_slice (take (6 + 2 * a.n - 6) (drop 6 a.held.now)) cc) (λ x b q k. search (rules, tests))
    ∙ some-far-any a.bound a.held.now a.n _ (omega arith) (omega (arith, length-drop 6 a.held.now))
