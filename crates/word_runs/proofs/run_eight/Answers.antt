-- The eight words more add their bits to what the counters have counted.
use Rattle.std.proofs.Common.{◌+◌, refl, arith}
use Rattle.popcount.proofs.RowLaws.{adds-more, eight-adds}
use Rattle.word_runs.specs.WordRuns.{run_differ, run_kept}
use Rattle.word_runs.proofs.WordRunLaws.{counted-few}
use Rattle.word_runs.proofs.run_eight.Goals as goal

pub count_eight-requires : goal.count_eight-requires
count_eight-requires c =
    let a = c.args in
    let s = counted-few a.pair.now a.i a.x a.k a.before (omega (arith, c.requires.here, c.requires.runs.short)) c.requires.counted in
    record { room = (omega arith, omega arith) }

pub returns : goal.returns
returns c =
    let a = c.args in
    let p = a.pair.now in
    let w1 = c.run_word in
    let w2 = c.run_word-2 in
    let w3 = c.run_word-3 in
    let w4 = c.run_word-4 in
    let w5 = c.run_word-5 in
    let w6 = c.run_word-6 in
    let w7 = c.run_word-7 in
    let w8 = c.run_word-8 in
    let t = c.count_eight.ensures in
    let d = eight-adds (run_differ p a.i a.x) a.k w1.result.differing w2.result.differing w3.result.differing w4.result.differing w5.result.differing w6.result.differing w7.result.differing w8.result.differing _
    w1.ensures.0 w2.ensures.0 w3.ensures.0 w4.ensures.0 w5.ensures.0 w6.ensures.0 w7.ensures.0 w8.ensures.0 refl in
    let e = eight-adds (run_kept p a.i a.x) a.k w1.result.kept w2.result.kept w3.result.kept w4.result.kept w5.result.kept w6.result.kept w7.result.kept w8.result.kept _
    w1.ensures.1 w2.ensures.1 w3.ensures.1 w4.ensures.1 w5.ensures.1 w6.ensures.1 w7.ensures.1 w8.ensures.1 refl in
    record {
      differing = rw t.differing (adds-more (run_differ p a.i a.x) 0 a.k (a.k + 8) _ _ c.requires.counted.differing d);
      kept = rw t.kept (adds-more (run_kept p a.i a.x) 0 a.k (a.k + 8) _ _ c.requires.counted.kept e);
    }
