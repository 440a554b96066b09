-- The size is within its limits, so that the products fit.
use borrow.Author.Rules.{rules}
use Rattle.rules.proofs.RefusalLaws.{or_else-none}
use Rattle.live_refusals.proofs.tell_rest.Statement.{statement}
use Rattle.live_refusals.proofs.tell_rest.Tie as tie

mul-area : tie.Need-overflow_mul-area
mul-area c = search rules

mul-numbers : tie.Need-overflow_mul-numbers
mul-numbers c = search rules

lowest-requires : tie.Need-lowest-requires
lowest-requires c κs = search rules

returns : tie.Need-returns
returns c = simp or_else-none at c.lowest.ensures

pub tell_rest_spec : {M : Type 1} → statement M
tell_rest_spec = tie.close (tie.spec mul-area mul-numbers lowest-requires returns)
