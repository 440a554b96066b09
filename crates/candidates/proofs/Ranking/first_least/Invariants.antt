-- `best` leads the ranks passed so far.
use Rattle.candidates.specs.Leading.{counts_by, Leading}
use Rattle.candidates.proofs.Ranking.first_least.Given as goal

abbrev pub invariant-loop-k : goal.invariant-loop-k
invariant-loop-k l = Leading (counts_by l.counts l.at l.self.places) l.k l.best
