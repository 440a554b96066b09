-- The size is within its limits, so that the products fit.
use borrow.Author.Rules.{rules}
use Rattle.rules.specs.Refusals.{◌when◌}
use Rattle.rules.proofs.RefusalLaws.{or_else-none}
use Rattle.live_refusals.proofs.add_rest.Statement.{statement}
use Rattle.live_refusals.proofs.add_rest.Tie as tie

mul-area : tie.Need-overflow_mul-area
mul-area c = search rules

mul-rgb : tie.Need-overflow_mul-rgb
mul-rgb c = search rules

short-memory-requires : tie.Need-short_memory-requires
short-memory-requires c κs = search rules

lowest-requires : tie.Need-lowest-requires
lowest-requires c κs = search rules

returns : tie.Need-returns
returns c = simp (← c.short_memory.ensures) (rw (← or_else-none (11 when c.short_memory.result)) c.lowest.ensures)

pub add_rest_spec : {M : Type 1} → statement M
add_rest_spec = tie.close (tie.spec mul-area mul-rgb short-memory-requires lowest-requires returns)
