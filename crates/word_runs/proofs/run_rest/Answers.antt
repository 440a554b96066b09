-- Each word left adds its tally.
use Rattle.std.proofs.Common.{◌+◌, arith}
use Rattle.popcount.specs.RowCounts.{Adds}
use Rattle.popcount.proofs.RowLaws.{adds-more}
use Rattle.tallies.proofs.TallyLaws.{word-both, tally-next-le}
use Rattle.word_runs.specs.WordRuns.{run_differ, run_kept, run_tally}
use Rattle.word_runs.proofs.WordRunLaws.{run_tally-le}
use Rattle.word_runs.proofs.run_rest.Goals as goal

-- the word's tally
word_more : (c : goal.After-tally-both) → let a = c.args in Adds (run_tally a.pair.now a.i a.x) c.loop-k.k (c.loop-k.k + 1) c.tally-both.result
word_more c =
    let a = c.args in
    word-both (run_differ a.pair.now a.i a.x) (run_kept a.pair.now a.i a.x) c.loop-k.k c.run_word.result c.tally-both.result c.run_word.ensures c.tally-both.ensures

pub overflow_add-both : goal.overflow_add-both
overflow_add-both c =
    let a = c.args in
    let l = c.loop-k in
    omega (
      arith,
      c.requires.runs.short,
      tally-next-le (run_tally a.pair.now a.i a.x) a.rest l.k (l.k + 1) l.both c.tally-both.result (run_tally-le a.pair.now a.i a.x) l.invariant (word_more c),
    )

pub loop-k-preserved : goal.loop-k-preserved
loop-k-preserved c =
    let a = c.args in
    let l = c.loop-k in
    adds-more (run_tally a.pair.now a.i a.x) a.rest l.k (l.k + 1) l.both c.tally-both.result l.invariant (word_more c)
