-- A byte's entry is its count, by the table's rule.
use Rattle.popcount.proofs.TableLaws.{byte-entry}
use Rattle.popcount.proofs.table.BitCounts.byte_count.Goals as goal

pub returns : goal.returns
returns c = let s = c.args.self.now in byte-entry s.counts s.counts_bits c.args.v
