-- How many pixels had a say (document 02, Paper 2): "A count of 3 means little without knowing out of how many." A count is at most its compared number, and
-- a compared number at most the pixels of the overlap, so that an owner can divide one by the other wherever the compared number is not 0.
use Rattle.std.specs.Prelude.{◌≡◌, List, ◌++◌, map, ℕ, zero, suc, ◌+◌, ◌*◌, ◌-◌, ◌/◌, ◌≤◌, ◌<◌, ℤ, nat_abs, get_or, Result, ⊤, Ok}
use Rattle.rules.specs.declared.Offset.{Offset}
use Rattle.rules.specs.declared.Setup.{Setup}
use Rattle.rules.specs.declared.Tally.{Tally}
use Rattle.rules.specs.Frames.{Frame}
use Rattle.rules.specs.Greys.{grey_frame, halved}
use Rattle.rules.specs.Differences.{Planes, difference, compared, overlap}
use Rattle.rules.specs.Levels.{still, added, ward_order, ExclusionRule, rule_of, pair}
use Rattle.rules.specs.Series.{Settings, grey_of, joined}
use Rattle.rules.specs.Calls.{difference_answer, pair_number, PairCall, series_number, SeriesCall}

-- the overlap's pixels at a candidate
abbrev pub overlap_at : ℕ → ℕ → Offset → ℕ
overlap_at w h m = overlap w h m.dx m.dy

-- the same at the candidates of all levels, in the order in which counts and compared numbers are written
unfoldable pub overlaps : List Offset → ExclusionRule → ℕ → ℕ → ℕ → ℕ → Frame → Frame → List ℕ
overlaps order exclusion percentile zero w h a b = map (overlap_at w h) (map (added still) ward_order)
overlaps order exclusion percentile (suc s) w h a b =
    let centre = (pair order exclusion percentile s (w / 2) (h / 2) (halved a) (halved b)).offset in
    overlaps order exclusion percentile s (w / 2) (h / 2) (halved a) (halved b) ++ map (overlap_at w h) (map (added (added centre centre)) ward_order)

-- of a pair of rasters, and of the pairs of a series
abbrev pub pair_overlaps : List Offset → Setup → List ℕ → List ℕ → List ℕ
pair_overlaps order S first second = overlaps order (rule_of S.exclusion) S.percentile S.s S.w S.h (grey_frame S.w first) (grey_frame S.w second)

abbrev pub series_overlaps : List Offset → Settings → List ℕ → List ℕ
series_overlaps order S F =
    joined (S.frames - 1)
    (λ k. overlaps order (rule_of S.exclusion) (get_or S.percentiles k 0) S.halvings S.w S.h (grey_of S F k) (grey_of S F (k + 1)))

-- n counts, each at most its compared number, and that at most its overlap's pixels
pub record Shared (n : ℕ) (counts compared overlaps : List ℕ) : Type 0 where
  pub under_compared : (k : ℕ) → k < n → get_or counts k 0 ≤ get_or compared k 0
  pub under_overlap : (k : ℕ) → k < n → get_or compared k 0 ≤ get_or overlaps k 0

-- At any two frames' planes and any move; what the difference call answers; and what accepted pair and series calls have written, for any order, rasters and
-- settings (proved in proofs/ShareLaws.antt as `shares`).
pub record Shares : Type 0 where
  pub under_compared : (w h : ℕ) (dx dy : ℤ) (a b : Planes) → difference w h dx dy a b ≤ compared w h dx dy a b
  pub under_overlap : (w h : ℕ) (dx dy : ℤ) (a b : Planes) → compared w h dx dy a b ≤ overlap w h dx dy
  -- subtraction stops at 0: a move by a side or more leaves no overlap
  pub area : (w h : ℕ) (dx dy : ℤ) → overlap w h dx dy ≡ (w - nat_abs dx) * (h - nat_abs dy)
  pub differences : (w h : ℕ) (dx dy : ℤ) (threshold1 exclusion1 threshold2 exclusion2 : List ℕ) (t : Tally)
      → difference_answer w h dx dy threshold1 exclusion1 threshold2 exclusion2 ≡ Ok t
      → (t.count ≤ t.compared) × (t.compared ≤ overlap w h dx dy)
  pub pairs : (order : List Offset) (S : Setup) (first second counts counts' compared compared' grey grey' words words' : List ℕ) (r : Result Offset ℕ)
      → pair_number S first second counts compared grey words ≡ 0 → PairCall order S first second counts counts' compared compared' grey grey' words words' r
      → Shared (9 * (S.s + 1)) counts' compared' (pair_overlaps order S first second)
  pub series : (order : List Offset) (S : Settings) (F : List ℕ) (offsets offsets' : List ℤ) (counts counts' compared compared' grey grey' words words' : List ℕ) (r : Result ⊤ ℕ)
      → series_number S F offsets counts compared grey words ≡ 0 → SeriesCall order S F offsets offsets' counts counts' compared compared' grey grey' words words' r
      → Shared (9 * (S.halvings + 1) * (S.frames - 1)) counts' compared' (series_overlaps order S F)
