-- The loop ends with the words up to `rest` counted, and both counts put into one number are their tally.
use Rattle.std.proofs.Common.{◌≡◌, ◌+◌, arith}
use Rattle.tallies.proofs.TallyLaws.{nothing-held, adds-both}
use Rattle.popcount.proofs.RowLaws.{adds_none}
use Rattle.word_runs.specs.WordRuns.{run_differ, run_kept, CountedTo}
use Rattle.word_runs.proofs.WordRunLaws.{counted-few}
use Rattle.word_runs.proofs.run_eights.Goals as goal
use Rattle.word_runs.proofs.run_eights.Goals.{else-loop-k-test, then-loop-k-test+else-rest-k-gt8}

pub loop-k-init : goal.loop-k-init
loop-k-init c =
    let a = c.args in
    let p = a.pair.now in
    record {
      within = omega arith;
      eights = omega (arith, c.requires.eights);
      counted = record { differing = rw nothing-held (adds_none (run_differ p a.i a.x) 0); kept = rw nothing-held (adds_none (run_kept p a.i a.x) 0) };
    }

-- all words up to `rest` are counted
all : (c : goal.Left-loop-k)
    → let a = c.args in CountedTo a.pair.now a.i a.x a.rest c.loop-k-test.counters
all c =
    let a = c.args in
    let l = c.loop-k in
    elim c.loop-k-test.branch [
      | else-loop-k-test w ↦ let e : a.rest ≡ l.k = omega arith in rw (e, w.counters-is) l.invariant.counted
      | then-loop-k-test+else-rest-k-gt8 w ↦ let e : a.rest ≡ l.k + 8 = omega arith in rw (e, w.counters-is) w.run_eight-counters.ensures
    ]

pub tally-requires : goal.tally-requires
tally-requires c =
    let a = c.args in
    let s = counted-few a.pair.now a.i a.x a.rest c.loop-k-test.counters (omega (arith, c.requires.eights, c.requires.runs.short)) (all c) in
    record { room = (omega arith, omega arith) }

pub returns : goal.returns
returns c =
    let a = c.args in
    let h = all c.before in
    rw c.tally.ensures (adds-both (run_differ a.pair.now a.i a.x) (run_kept a.pair.now a.i a.x) 0 a.rest _ _ h.differing h.kept)
