-- The first k grey values are done.
use Rattle.std.proofs.Common.{◌≡◌, length}
use Rattle.rules.specs.Buffers.{Filled}
use Rattle.grey_block.specs.GreyBlocks.{weighed_at}
use Rattle.grey_block.proofs.weighed.Given as goal

abbrev pub invariant-loop-k : goal.invariant-loop-k
invariant-loop-k l = record { size : length l.block ≡ 32; done : Filled (weighed_at l.colours) l.k l.block }
