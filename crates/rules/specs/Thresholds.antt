-- The threshold of a grey frame for a percentile. Any percentile from 1 to 99 is meant; the offered calls take 17, 50 and 83.
use Rattle.std.specs.Prelude.{Bool, true, false, ℕ, zero, suc, ◌*◌, leb}
use Rattle.rules.specs.Limits.{max_grey}
use Rattle.rules.specs.Sums.{one_if, sum_pixels}
use Rattle.rules.specs.Frames.{Frame}

-- "(pixels at most v)"
unfoldable pub at_most : ℕ → ℕ → Frame → ℕ → ℕ
at_most w h f v = sum_pixels w h (λ x y. one_if (leb (f x y) v))

-- "100·(pixels at most v) ≥ P·w·h"
unfoldable pub reaches : ℕ → ℕ → ℕ → Frame → ℕ → Bool
reaches w h percentile f v = leb (percentile * (w * h)) (100 * at_most w h f v)

-- the smallest number that passes a test, or n where none below n does
unfoldable pub least : ℕ → (ℕ → Bool) → ℕ
least zero p = 0
least (suc n) p = elim (p 0) [ true ↦ 0 | false ↦ suc (least n (λ v. p (suc v))) ]

-- "Threshold t for percentile P is the smallest grey value v with 100·(pixels at most v) ≥ P·w·h."
unfoldable pub threshold : ℕ → ℕ → ℕ → Frame → ℕ
threshold w h percentile f = least max_grey (reaches w h percentile f)
