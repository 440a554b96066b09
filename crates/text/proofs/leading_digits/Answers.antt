-- `take_while` keeps the front of which each byte is a digit, and `count` says how long it is.
use Rattle.std.proofs.Common.{◌∙◌, sym, rules, tests}
use Rattle.std.proofs.lemmas.Iterator.{YieldsList-from_slice}
use Rattle.std.proofs.lemmas.Iterator.Consumers.{count_from_yields_List}
use Rattle.std.proofs.lemmas.Iterator.Search.{YieldsList-from_take_while}
use Rattle.std.proofs.lemmas.List.Folds.{length-prefix_len}
use Rattle.text.specs.Digits.{is_digit}
use Rattle.text.proofs.ReadLaws.{leading-prefix}
use Rattle.text.proofs.leading_digits.Goals as goal

pub returns : goal.returns
unfolding is_digit
returns c =
    let bytes = c.args.bytes.now in
    count_from_yields_List c.take_while.result _ c.count.ensures.ran
    (YieldsList-from_take_while _ is_digit (YieldsList-from_slice bytes cc) c.take_while.ensures.closure c.take_while.ensures.done (λ x b q k. search (rules, tests)))
    ∙ length-prefix_len is_digit bytes
    ∙ sym (leading-prefix is_digit bytes)
