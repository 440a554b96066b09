-- Laws of runs of words: their bits, and their tallies put together.
use mathlib.Core.Path.{◌≡◌, ap₂, ◌∙◌}
use mathlib.Core.List.{List}
use Prim.Native.Nat.{ℕ, ◌+◌, ◌*◌, ◌/◌, ◌%◌, ◌≤◌, ◌<◌}
use native.Mathlib.Omega.{arith}
use lib.ListN.{get_or}
use lib.Bits.{bit_and, bit_xor}
use Rattle.rules.specs.Sums.{sum}
use Rattle.rules.specs.Bitmaps.{bit}
use Rattle.rules.proofs.SumLaws.{sum-none}
use Rattle.popcount.specs.RowCounts.{Adds}
use Rattle.tallies.specs.declared.Counters.{Counters}
use Rattle.tallies.specs.Tallies.{WordsOf}
use Rattle.tallies.specs.Held.{held}
use Rattle.differing.specs.declared.FramePair.{FramePair}
use Rattle.differing.specs.RowDifferences.{disagree, both_kept}
use Rattle.word_runs.specs.WordRuns.{run_bit, run_differ, run_kept, run_tally, CountedTo}
use Rattle.popcount.proofs.RowLaws.{adds-more, adds-le}
use Rattle.tallies.proofs.TallyLaws.{both-le}
use Rattle.differing.proofs.DifferLaws.{disagree-lt, both-lt, mixed-bit, mixed-kept}

run-bit : (words : List ℕ) (from k b : ℕ) → b < 64 → bit (get_or words (from + k) 0) b ≡ run_bit words from (k * 64 + b)
unfolding run_bit
run-bit words from k b l =
    let q : from + k ≡ from + (k * 64 + b) / 64 = omega arith in
    let r : b ≡ (k * 64 + b) % 64 = omega arith in
    ap₂ (λ (i j : ℕ). bit (get_or words i 0) j) q r

pub run-word : (p : FramePair) (i x k : ℕ)
    → WordsOf (run_differ p i x) (run_kept p i x) k
    (record {
      differing = bit_and (bit_xor (get_or p.threshold1.now (i + k) 0) (get_or p.threshold2.now (x + k) 0)) (bit_and (get_or p.exclusion1.now (i + k) 0) (get_or p.exclusion2.now (x + k) 0));
      kept = bit_and (get_or p.exclusion1.now (i + k) 0) (get_or p.exclusion2.now (x + k) 0);
    })
unfolding run_differ run_kept
run-word p i x k =
    let t1 = p.threshold1.now in
    let e1 = p.exclusion1.now in
    let t2 = p.threshold2.now in
    let e2 = p.exclusion2.now in (
      λ b l. mixed-bit (get_or t1 (i + k) 0) (get_or e1 (i + k) 0) (get_or t2 (x + k) 0) (get_or e2 (x + k) 0) b
          ∙ (λ j. disagree (run-bit t1 i k b l j) (run-bit e1 i k b l j) (run-bit t2 x k b l j) (run-bit e2 x k b l j)),
      λ b l. mixed-kept (get_or e1 (i + k) 0) (get_or e2 (x + k) 0) b ∙ (λ j. both_kept (run-bit e1 i k b l j) (run-bit e2 x k b l j)),
    )

run_differ-lt : (p : FramePair) (i x q : ℕ) → run_differ p i x q < 2
unfolding run_differ
run_differ-lt p i x q = disagree-lt (run_bit p.threshold1.now i q) (run_bit p.exclusion1.now i q) (run_bit p.threshold2.now x q) (run_bit p.exclusion2.now x q)

run_kept-lt : (p : FramePair) (i x q : ℕ) → run_kept p i x q < 2
unfolding run_kept
run_kept-lt p i x q = both-lt (run_bit p.exclusion1.now i q) (run_bit p.exclusion2.now x q)

pub run_tally-le : (p : FramePair) (i x q : ℕ) → run_tally p i x q ≤ 4294967297
run_tally-le p i x = both-le (run_differ p i x) (run_kept p i x) (run_differ-lt p i x) (run_kept-lt p i x)

pub run-whole : (f : ℕ → ℕ) (rest len a b : ℕ) → Adds f 0 rest a → Adds f rest len b → a + b ≡ sum (len * 64) f
run-whole f rest len a b p q = let z = sum-none f in omega (arith, adds-more f 0 rest len a b p q)

-- what counters have counted is little, since a run is no longer than a frame
pub counted-few : (p : FramePair) (i x k : ℕ) (c : Counters) → k ≤ 262144 → CountedTo p i x k c
    → (held c.differing ≤ 16777216) × (held c.kept ≤ 16777216)
counted-few p i x k c l h =
    let d = adds-le (run_differ p i x) 0 k _ (run_differ-lt p i x) h.differing in
    let e = adds-le (run_kept p i x) 0 k _ (run_kept-lt p i x) h.kept in
    (omega arith, omega arith)
