-- The first 2 k bytes are laid.
use Rattle.std.proofs.Common.{◌≡◌, ◌*◌, length}
use Rattle.rules.specs.Buffers.{Filled}
use Rattle.grey_block.specs.GreyBlocks.{shuffled_at}
use Rattle.grey_block.proofs.shuffled.Given as goal

abbrev pub invariant-loop-k : goal.invariant-loop-k
invariant-loop-k l = record { size : length l.out ≡ 96; laid : Filled (shuffled_at l.all) (2 * l.k) l.out }
