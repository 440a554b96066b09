-- The four sums make up the seven words; without a 1 in the three words left there is none.
use Rattle.std.proofs.Common.{arith}
use Rattle.popcount.proofs.RowLaws.{word-le}
use Rattle.popcount.proofs.AdderLaws.{none_left}
use Rattle.popcount.proofs.table.BitCounts.seven_word_count.Goals as goal

pub returns-then-all-carried-eq0 : goal.returns-then-all-carried-eq0
returns-then-all-carried-eq0 c =
    omega (arith, none_left c.full_adder-all.result.low c.full_adder-carried.result.low c.full_adder-carried.result.carry c.if-all-carried-eq0.true)

pub overflow_mul-result : goal.overflow_mul-result
overflow_mul-result c = omega (arith, word-le c.full_adder-carried.result.low)

pub overflow_add-result : goal.overflow_add-result
overflow_add-result c = omega (arith, word-le c.full_adder-all.result.low, word-le c.full_adder-carried.result.low)

pub overflow_mul-result-2 : goal.overflow_mul-result-2
overflow_mul-result-2 c = omega (arith, word-le c.full_adder-carried.result.carry)

pub overflow_add-result-2 : goal.overflow_add-result-2
overflow_add-result-2 c =
    omega (arith, word-le c.full_adder-all.result.low, word-le c.full_adder-carried.result.low, word-le c.full_adder-carried.result.carry)
