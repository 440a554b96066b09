-- Each entry of the constant is the number of its byte's 1 bits, by one computed test.
use Rattle.std.proofs.Common.{refl}
use Rattle.rules.specs.Sums.{sum}
use Rattle.rules.specs.Bitmaps.{bit}
use Rattle.popcount.proofs.TableLaws.{counts_bits}
use Rattle.popcount.proofs.table.BitCounts.new.Goals as goal

pub invariant_of-result : goal.invariant_of-result
unfolding sum bit
invariant_of-result c = record { counts_bits = counts_bits _ refl tt }
