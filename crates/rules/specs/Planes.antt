-- The two bits of a pixel, bit planes, and their shift. A bit is 0 or 1; a plane is a frame of bits.
use Rattle.std.specs.Prelude.{◌&&◌, not, ℕ, ◌-◌, min, max, leb, ltb, ℤ, pos, negsuc, ◌-ℤ◌}
use Rattle.rules.specs.Sums.{gate, one_if, sum_pixels}
use Rattle.rules.specs.Frames.{Frame}

-- "Threshold bit: 1 where grey > t."
unfoldable pub threshold_bit : ℕ → ℕ → ℕ
threshold_bit t v = one_if (ltb t v)

-- |a − b|
unfoldable pub distance : ℕ → ℕ → ℕ
distance a b = max a b - min a b

-- "Exclusion bit: 0 where |grey − t| ≤ T, else 1."
unfoldable pub exclusion_bit : ℕ → ℕ → ℕ → ℕ
exclusion_bit t tolerance v = one_if (ltb tolerance (distance v t))

-- "Its exclusion bit is 0 where grey lies between the thresholds …, both included", from lo to hi, else 1 (document 02, Paper 6).
unfoldable pub band_bit : ℕ → ℕ → ℕ → ℕ
band_bit lo hi v = one_if (not (leb lo v && leb v hi))

-- the plane of a grey frame by a rule for one pixel's bit
abbrev pub bits_by : (ℕ → ℕ) → Frame → Frame
bits_by rule f x y = rule (f x y)

-- f at z "if that lies in the frame, else 0": z is from 0 to n − 1
unfoldable pub within : ℕ → ℤ → (ℕ → ℕ) → ℕ
within n (pos k) f = gate (ltb k n) (f k)
within n (negsuc k) f = 0

-- "the new bit at (x,y) is the old bit at (x−dx, y−dy) if that lies in the frame, else 0"
unfoldable pub shifted : ℕ → ℕ → ℤ → ℤ → Frame → Frame
shifted w h dx dy f x y = within w (pos x -ℤ dx) (λ x'. within h (pos y -ℤ dy) (λ y'. f x' y'))

-- "Total: the number of 1 bits"
unfoldable pub total : ℕ → ℕ → Frame → ℕ
total w h f = sum_pixels w h f
