-- `position` finds the first byte that ends the line, if there is one.
use Rattle.std.proofs.Common.{Some, None, rules, tests}
use Rattle.std.proofs.lemmas.Iterator.{YieldsList-from_slice}
use Rattle.std.proofs.lemmas.Iterator.Search.{position_from_yields_List}
use Rattle.p6_whitespace.specs.Whitespace.{ends_line}
use Rattle.p6_whitespace.proofs.BlankLaws.{comment_ends, comment_stays}
use Rattle.p6_whitespace.proofs.comment_length.Goals as goal

pub returns-in-Some : goal.returns-in-Some
returns-in-Some c =
    comment_ends c.args.bytes.now _
    (position_from_yields_List ends_line _ _ (Some c.in-Some.n) c.in-Some.ensures.ran (YieldsList-from_slice c.args.bytes.now cc) (λ x b q k. search (rules, tests)))

pub returns-in-None : goal.returns-in-None
returns-in-None c =
    comment_stays c.args.bytes.now
    (position_from_yields_List ends_line _ _ None c.in-None.ensures.ran (YieldsList-from_slice c.args.bytes.now cc) (λ x b q k. search (rules, tests)))
