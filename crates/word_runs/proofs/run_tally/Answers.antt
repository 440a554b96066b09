-- The eights and the words left make up the run.
use Rattle.std.proofs.Common.{◌*◌, ◌-◌, ◌%◌, arith}
use Rattle.tallies.proofs.TallyLaws.{tally-le}
use Rattle.word_runs.specs.WordRuns.{run_tally}
use Rattle.word_runs.proofs.WordRunLaws.{run_tally-le, run-whole}
use Rattle.word_runs.proofs.run_tally.Goals as goal

pub overflow_add-result : goal.overflow_add-result
overflow_add-result c =
    let a = c.args in
    let run = run_tally a.pair.now a.i a.x in
    omega (
      arith,
      c.requires.runs.short,
      run-whole run (a.len - a.len % 8) a.len c.run_eights.result c.run_rest.result c.run_eights.ensures c.run_rest.ensures,
      tally-le (a.len * 64) run (run_tally-le a.pair.now a.i a.x),
    )

pub returns : goal.returns
returns c =
    let a = c.args in
    run-whole (run_tally a.pair.now a.i a.x) (a.len - a.len % 8) a.len c.run_eights.result c.run_rest.result c.run_eights.ensures c.run_rest.ensures
