-- The tally is what the words passed add to the run's sum.
use Rattle.popcount.specs.RowCounts.{Adds}
use Rattle.word_runs.specs.WordRuns.{run_tally}
use Rattle.word_runs.proofs.run_rest.Given as goal

abbrev pub invariant-loop-k : goal.invariant-loop-k
invariant-loop-k l = Adds (run_tally l.pair l.i l.x) l.rest l.k l.both
