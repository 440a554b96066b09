-- Series alignment: the pairs of neighbours, and their sums about the reference.
use Rattle.std.specs.Prelude.{cond, List, [], ◌∷◌, ◌++◌, ℕ, zero, suc, ◌+◌, ◌*◌, ◌-◌, leb, ℤ, neg_ℤ, get_or, drop}
use Rattle.rules.specs.Frames.{Frame}
use Rattle.rules.specs.Greys.{grey_frame}
use Rattle.rules.specs.declared.Offset.{Offset}
use Rattle.rules.specs.declared.Exclusion.{Exclusion}
use Rattle.rules.specs.Levels.{still, added, ExclusionRule, rule_of, Aligned, pair}

-- "Its sizes are N, w and h; its settings are s, T, r and the percentiles." T is one way to leave pixels out.
pub record Settings : Type 0 where
  pub frames : ℕ
  pub w : ℕ
  pub h : ℕ
  pub halvings : ℕ
  pub exclusion : Exclusion
  pub reference : ℕ
  pub percentiles : List ℕ

-- frame k's grey, the rasters standing "one raster after another"
unfoldable pub grey_of : Settings → List ℕ → ℕ → Frame
grey_of S rasters k = grey_frame S.w (drop (k * (3 * (S.w * S.h))) rasters)

-- how a pair of grey frames is aligned, by its percentile
abbrev pub Aligner : Type 0
Aligner = ℕ → Frame → Frame → Aligned

-- "Pair j is frames j−1 and j", here j = k + 1, with the percentile of its place
unfoldable pub pair_of : Aligner → List ℕ → (ℕ → Frame) → ℕ → Aligned
pair_of align percentiles frame k = align (get_or percentiles k 0) (frame k) (frame (k + 1))

-- d(a + 1) + … + d(a + n), the offset of pair j standing at place j − 1
unfoldable pub sum_from : (ℕ → Offset) → ℕ → ℕ → Offset
sum_from d a zero = still
sum_from d a (suc n) = added (sum_from d a n) (d (a + n))

abbrev pub opposite : Offset → Offset
opposite m = record { dx = neg_ℤ m.dx; dy = neg_ℤ m.dy }

-- "Frame r has (0,0). Frame k above r has d(r+1)+…+d(k), frame k below r has −(d(k+1)+…+d(r))."
unfoldable pub frame_offset : (ℕ → Offset) → ℕ → ℕ → Offset
frame_offset d r k = cond (leb r k) (sum_from d r (k - r)) (opposite (sum_from d k (r - k)))

-- "Offsets are 2·N signed 32-bit numbers, dx before dy"
unfoldable pub offset_list : ℕ → (ℕ → Offset) → List ℤ
offset_list zero f = []
offset_list (suc n) f = offset_list n f ++ ((f n).dx ∷ (f n).dy ∷ [])

-- the pairs' lists one after another: "counts run pair 1 first", and so do compared numbers
unfoldable pub joined : ℕ → (ℕ → List ℕ) → List ℕ
joined zero lists = []
joined (suc n) lists = joined n lists ++ lists n

pub record Answer : Type 0 where
  pub offsets : List ℤ
  pub counts : List ℕ
  pub compared : List ℕ

-- the answer of a series of N frames, from the answers of its pairs
unfoldable pub answer_of : ℕ → ℕ → (ℕ → Aligned) → Answer
answer_of n reference pairs =
    record {
      offsets = offset_list n (frame_offset (λ k. (pairs k).offset) reference);
      counts = joined (n - 1) (λ k. (pairs k).counts);
      compared = joined (n - 1) (λ k. (pairs k).compared);
    }

-- the pixel-by-pixel answer for an order of the nine candidates and an exclusion rule
unfoldable pub answer_by : List Offset → ExclusionRule → Settings → List ℕ → Answer
answer_by order exclusion S rasters =
    answer_of S.frames S.reference
    (pair_of (λ p. pair order exclusion p S.halvings S.w S.h) S.percentiles (grey_of S rasters))

-- the same for the exclusion rule that the settings name
unfoldable pub series_answer : List Offset → Settings → List ℕ → Answer
series_answer order S rasters = answer_by order (rule_of S.exclusion) S rasters
