-- `take_while` keeps the bytes before the first 10, and `count` says how many there are.
use Rattle.std.proofs.Common.{ℕ, Bool, not, eqb, ◌∙◌, sym, rules, tests}
use Rattle.std.proofs.lemmas.Iterator.{YieldsList-from_slice}
use Rattle.std.proofs.lemmas.Iterator.Consumers.{count_from_yields_List}
use Rattle.std.proofs.lemmas.Iterator.Search.{YieldsList-from_take_while}
use Rattle.std.proofs.lemmas.List.Folds.{length-prefix_len}
use Rattle.text.proofs.ReadLaws.{leading-prefix}
use Rattle.settings_line.proofs.line_length.Goals as goal

abbrev in_line : ℕ → Bool
in_line b = not (eqb b 10)

pub returns : goal.returns
returns c =
    let input = c.args.input.now in
    count_from_yields_List c.take_while.result _ c.count.ensures.ran
    (YieldsList-from_take_while _ in_line (YieldsList-from_slice input cc) c.take_while.ensures.closure c.take_while.ensures.done (λ x b q k. search (rules, tests)))
    ∙ length-prefix_len in_line input
    ∙ sym (leading-prefix in_line input)
