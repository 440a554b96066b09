-- The tally is what the words passed add to the row's sum.
use Rattle.popcount.specs.RowCounts.{Adds}
use Rattle.differing.specs.RowDifferences.{moved_tally}
use Rattle.difference.proofs.edges.edge_words.Given as goal

abbrev pub invariant-loop-k : goal.invariant-loop-k
invariant-loop-k l = Adds (moved_tally l.pair l.base l.from l.m) l.first l.k l.both
