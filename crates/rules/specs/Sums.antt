-- Tests as numbers, and sums over numbers and over pixels. Every count of document 01 is such a sum.
use Rattle.std.specs.Prelude.{Bool, true, false, ℕ, zero, suc, ◌+◌}

-- n where the test holds, else 0
abbrev pub gate : Bool → ℕ → ℕ
gate true n = n
gate false n = 0

-- 1 where the test holds, else 0
abbrev pub one_if : Bool → ℕ
one_if t = gate t 1

-- f 0 + f 1 + … + f (n − 1)
unfoldable pub sum : ℕ → (ℕ → ℕ) → ℕ
sum zero f = 0
sum (suc n) f = sum n f + f n

-- the sum of row y
abbrev pub row_sum : ℕ → (ℕ → ℕ → ℕ) → ℕ → ℕ
row_sum w f y = sum w (λ x. f x y)

-- the sum over the pixels (x, y) of a frame of w by h
unfoldable pub sum_pixels : ℕ → ℕ → (ℕ → ℕ → ℕ) → ℕ
sum_pixels w h f = sum h (row_sum w f)
