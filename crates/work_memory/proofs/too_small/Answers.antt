-- The shortest side is a power of two, since the shift loses no bit.
use Rattle.std.proofs.Common.{rules}
use Rattle.rules.specs.Refusals.{too_small}
use Rattle.work_memory.proofs.MemoryLaws.{shortest-side}
use Rattle.work_memory.proofs.too_small.Goals as goal

pub returns-then-w-least : goal.returns-then-w-least
unfolding too_small
returns-then-w-least c = let e = shortest-side c.args.s c.requires in search (rules, e)

pub returns-else-w-least : goal.returns-else-w-least
unfolding too_small
returns-else-w-least c = let e = shortest-side c.args.s c.requires in search (rules, e)
