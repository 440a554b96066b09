-- Both exclusion bits 1, and there the exclusive-or of the thresholds, bit by bit.
use Rattle.word_runs.proofs.WordRunLaws.{run-word}
use Rattle.word_runs.proofs.run_word.Goals as goal

pub returns : goal.returns
returns c = let a = c.args in run-word a.pair.now a.i a.x a.k
