-- Tallies over runs of whole words, with no edge at the ends of rows.
use Rattle.std.specs.Prelude.{◌≡◌, List, ℕ, ◌+◌, ◌*◌, ◌/◌, ◌%◌, ◌≤◌, ◌<◌, length, get_or}
use Rattle.rules.specs.Limits.{max_side, word_bits}
use Rattle.rules.specs.Bitmaps.{bit, row_words}
use Rattle.tallies.specs.declared.Counters.{Counters}
use Rattle.popcount.specs.RowCounts.{Adds}
use Rattle.tallies.specs.Tallies.{both}
use Rattle.tallies.specs.Held.{held}
use Rattle.differing.specs.declared.FramePair.{FramePair}
use Rattle.differing.specs.RowDifferences.{disagree, both_kept}

-- bit p of the words from place `from` on
unfoldable pub run_bit : List ℕ → ℕ → ℕ → ℕ
run_bit words from p = bit (get_or words (from + p / word_bits) 0) (p % word_bits)

-- bit q of the first frame's words from place i on against that of the second's from place x on
unfoldable pub run_differ : FramePair → ℕ → ℕ → ℕ → ℕ
run_differ p i x q =
    disagree (run_bit p.threshold1.now i q) (run_bit p.exclusion1.now i q) (run_bit p.threshold2.now x q) (run_bit p.exclusion2.now x q)

-- whether the two are compared
unfoldable pub run_kept : FramePair → ℕ → ℕ → ℕ → ℕ
run_kept p i x q = both_kept (run_bit p.exclusion1.now i q) (run_bit p.exclusion2.now x q)

-- both in one number
abbrev pub run_tally : FramePair → ℕ → ℕ → ℕ → ℕ
run_tally p i x = both (run_differ p i x) (run_kept p i x)

-- the two runs lie in the four bitmaps, and are no longer than a frame
pub record RunsIn (p : FramePair) (i x len : ℕ) : Type 0 where
  pub threshold1 : i + len ≤ length p.threshold1.now
  pub exclusion1 : i + len ≤ length p.exclusion1.now
  pub threshold2 : x + len ≤ length p.threshold2.now
  pub exclusion2 : x + len ≤ length p.exclusion2.now
  pub short : len ≤ word_bits * max_side

-- the counters have counted the first k words of the runs
pub record CountedTo (p : FramePair) (i x k : ℕ) (c : Counters) : Type 0 where
  pub differing : Adds (run_differ p i x) 0 k (held c.differing)
  pub kept : Adds (run_kept p i x) 0 k (held c.kept)

-- no row of w pixels has a 1 bit past w
pub record Clean (w h : ℕ) (words : List ℕ) : Type 0 where
  pub past : (x y : ℕ) → w ≤ x → x < row_words w * word_bits → y < h → bit (get_or words (y * row_words w + x / word_bits) 0) (x % word_bits) ≡ 0
