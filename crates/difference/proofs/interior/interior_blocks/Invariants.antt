-- The tally is what the words passed add to the row's sum, and what is left up to `rest` goes by sevens.
use Rattle.std.proofs.Common.{◌≡◌, ◌-◌, ◌%◌, ◌≤◌}
use Rattle.popcount.specs.RowCounts.{Adds}
use Rattle.differing.specs.RowDifferences.{moved_tally}
use Rattle.difference.proofs.interior.interior_blocks.Given as goal

abbrev pub invariant-loop-k : goal.invariant-loop-k
invariant-loop-k l = record {
  within : l.k ≤ l.m.rest;
  sevens : (l.m.rest - l.k) % 7 ≡ 0;
  added : Adds (moved_tally l.pair l.base l.from l.m) l.m.first l.k l.both;
}
