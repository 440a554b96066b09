-- A size that is not bad keeps its limits.
use Rattle.rules.proofs.RefusalLaws.{size-known}
use Rattle.refusals.proofs.size_refusal.Goals as goal

pub returns-clause-known : goal.returns-clause-known
returns-clause-known c = size-known _ _ _ c.bad_size.ensures c.if-bad_size.false
