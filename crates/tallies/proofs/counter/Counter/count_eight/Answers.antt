-- A word has at most 64 eights.
use Rattle.std.proofs.Common.{arith}
use Rattle.popcount.proofs.RowLaws.{word-le}
use Rattle.tallies.proofs.counter.Counter.count_eight.Goals as goal

pub overflow_add-eights : goal.overflow_add-eights
overflow_add-eights c = omega (arith, word-le c.full_adder-all.result.carry)
