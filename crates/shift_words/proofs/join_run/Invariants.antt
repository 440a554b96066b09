-- The words up to k are written, and nothing else has changed.
use Rattle.shift_words.specs.Runs.{RunAt}
use Rattle.shift_words.proofs.join_run.Given as goal

abbrev pub invariant-loop-k : goal.invariant-loop-k
invariant-loop-k l = RunAt l.src l.from l.m l.h l.to l.first l.k l.initial.dst l.dst
