-- The first k columns are done.
use Rattle.std.proofs.Common.{◌≡◌, length}
use Rattle.rules.specs.Buffers.{Filled}
use Rattle.half_block.specs.HalfPlaces.{second_at}
use Rattle.half_block.proofs.seconds.Given as goal

abbrev pub invariant-loop-k : goal.invariant-loop-k
invariant-loop-k l = record { size : length l.all ≡ 64; done : Filled (second_at l.src l.top l.bottom) l.k l.all }
