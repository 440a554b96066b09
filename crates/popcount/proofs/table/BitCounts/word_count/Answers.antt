-- The eight bytes' counts make up the word's.
use Rattle.std.proofs.Common.{arith}
use Rattle.popcount.proofs.TableLaws.{word_bytes}
use Rattle.popcount.proofs.table.BitCounts.word_count.Goals as goal

pub returns : goal.returns
returns c = omega (arith, word_bytes c.args.v)
