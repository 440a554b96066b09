-- The noise band by rank (document 02, Paper 6): what a band of 0 is, and a pair that a band aligns.
use Rattle.std.specs.Prelude.{◌≡◌, List, [], ◌∷◌, ℕ, ℤ, pos, negsuc, Result, ⊤}
use Rattle.rules.specs.declared.Offset.{Offset}
use Rattle.rules.specs.Frames.{Frame, frame_of}
use Rattle.rules.specs.Levels.{least_move_order, ExclusionRule, by_tolerance, by_band, Aligned, pair}
use Rattle.rules.specs.Series.{series_answer}
use Rattle.rules.specs.Calls.{tolerance_setup, band_setup, pair_result, PairCall, tolerance_settings, band_settings, SeriesCall}

-- "With b=0 it equals T=0": every offset, count and compared number, and every refusal, in any order of the nine (proved in proofs/BandLaws.antt as `band-zero`).
pub record BandZero : Type 0 where
  -- the rules, whatever a level's thresholds are
  pub rule : by_band 0 ≡ by_tolerance 0
  -- the results
  pub pairs : (order : List Offset) (w h s percentile : ℕ) (first second : List ℕ)
      → pair_result order (band_setup w h s 0 percentile) first second ≡ pair_result order (tolerance_setup w h s 0 percentile) first second
  pub series : (order : List Offset) (w h s n r : ℕ) (percentiles F : List ℕ)
      → series_answer order (band_settings w h s 0 n r percentiles) F ≡ series_answer order (tolerance_settings w h s 0 n r percentiles) F
  -- the calls: whatever a call by a band of 0 leaves, the call at tolerance 0 leaves
  pub pair_calls : (order : List Offset) (w h s percentile : ℕ) (first second counts counts' compared compared' grey grey' words words' : List ℕ) (r : Result Offset ℕ)
      → PairCall order (band_setup w h s 0 percentile) first second counts counts' compared compared' grey grey' words words' r
      → PairCall order (tolerance_setup w h s 0 percentile) first second counts counts' compared compared' grey grey' words words' r
  pub series_calls : (order : List Offset) (w h s n r : ℕ) (percentiles F : List ℕ) (offsets offsets' : List ℤ) (counts counts' compared compared' grey grey' words words' : List ℕ) (k : Result ⊤ ℕ)
      → SeriesCall order (band_settings w h s 0 n r percentiles) F offsets offsets' counts counts' compared compared' grey grey' words words' k
      → SeriesCall order (tolerance_settings w h s 0 n r percentiles) F offsets offsets' counts counts' compared compared' grey grey' words words' k

-- Two frames of 8 by 8. The second is the first slid by (1,2), so that (−1,−2) moves it back, and of the 42 pixels that both show 14 have become one step brighter
-- or darker. The thresholds for 34, 50 and 66 are 3, 4 and 7 in both, and 3, 3 and 4 in both halved.
abbrev pub quiet : Frame
quiet = frame_of 8 (
    1 ∷ 8 ∷ 9 ∷ 3 ∷ 1 ∷ 8 ∷ 2 ∷ 3 ∷
    1 ∷ 8 ∷ 7 ∷ 3 ∷ 8 ∷ 4 ∷ 8 ∷ 3 ∷
    1 ∷ 8 ∷ 9 ∷ 7 ∷ 9 ∷ 8 ∷ 8 ∷ 4 ∷
    2 ∷ 4 ∷ 1 ∷ 2 ∷ 6 ∷ 3 ∷ 2 ∷ 5 ∷
    5 ∷ 6 ∷ 4 ∷ 1 ∷ 4 ∷ 6 ∷ 1 ∷ 9 ∷
    7 ∷ 7 ∷ 4 ∷ 3 ∷ 9 ∷ 2 ∷ 1 ∷ 7 ∷
    4 ∷ 9 ∷ 6 ∷ 4 ∷ 1 ∷ 2 ∷ 9 ∷ 2 ∷
    3 ∷ 8 ∷ 2 ∷ 7 ∷ 7 ∷ 8 ∷ 9 ∷ 9 ∷ [])

abbrev pub noisy : Frame
noisy = frame_of 8 (
    8 ∷ 6 ∷ 3 ∷ 5 ∷ 3 ∷ 3 ∷ 8 ∷ 3 ∷
    4 ∷ 9 ∷ 2 ∷ 1 ∷ 3 ∷ 7 ∷ 8 ∷ 9 ∷
    5 ∷ 2 ∷ 8 ∷ 9 ∷ 2 ∷ 2 ∷ 8 ∷ 1 ∷
    7 ∷ 1 ∷ 7 ∷ 7 ∷ 2 ∷ 9 ∷ 4 ∷ 8 ∷
    4 ∷ 1 ∷ 8 ∷ 9 ∷ 8 ∷ 8 ∷ 9 ∷ 8 ∷
    3 ∷ 2 ∷ 4 ∷ 0 ∷ 2 ∷ 6 ∷ 3 ∷ 2 ∷
    3 ∷ 5 ∷ 6 ∷ 4 ∷ 1 ∷ 5 ∷ 6 ∷ 1 ∷
    1 ∷ 7 ∷ 7 ∷ 4 ∷ 3 ∷ 9 ∷ 3 ∷ 2 ∷ [])

-- their answer by a rule, with s = 1 and P = 50
abbrev pub noisy_by : ExclusionRule → Aligned
noisy_by rule = pair least_move_order rule 50 1 8 8 quiet noisy

abbrev pub moved_back : Aligned
moved_back = record {
  offset = record { dx = negsuc 0; dy = negsuc 1 };
  counts = 2 ∷ 1 ∷ 0 ∷ 0 ∷ 5 ∷ 3 ∷ 0 ∷ 1 ∷ 2 ∷ 4 ∷ 0 ∷ 11 ∷ 5 ∷ 8 ∷ 12 ∷ 7 ∷ 5 ∷ 6 ∷ [];
  compared = 2 ∷ 4 ∷ 3 ∷ 4 ∷ 6 ∷ 4 ∷ 1 ∷ 3 ∷ 4 ∷ 13 ∷ 23 ∷ 21 ∷ 9 ∷ 15 ∷ 17 ∷ 9 ∷ 11 ∷ 13 ∷ [];
}

-- A band of 16 finds the move. A band of 0 does not, and neither would one with its ends left out or with P−b for both ends, each (−2,3); one with the
-- thresholds of the finest level at both levels, (−3,1); or 16 grey steps, (0,0). (Proved in proofs/ExampleLaws.antt as `noise`.)
pub record Noise : Type 0 where
  pub by_rank : noisy_by (by_band 16) ≡ moved_back
  pub without : (noisy_by (by_band 0)).offset ≡ record { dx = negsuc 1; dy = pos 3 }
