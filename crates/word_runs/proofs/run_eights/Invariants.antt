-- The counters have counted the words passed, and what is left up to `rest` goes by eights.
use Rattle.std.proofs.Common.{◌≡◌, ◌-◌, ◌%◌, ◌≤◌}
use Rattle.word_runs.specs.WordRuns.{CountedTo}
use Rattle.word_runs.proofs.run_eights.Given as goal

abbrev pub invariant-loop-k : goal.invariant-loop-k
invariant-loop-k l = record {
  within : l.k ≤ l.rest;
  eights : (l.rest - l.k) % 8 ≡ 0;
  counted : CountedTo l.pair l.i l.x l.k l.counters;
}
