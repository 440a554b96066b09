-- The difference count of two frames' bit planes, and the number of pixels compared.
use Rattle.std.specs.Prelude.{◌≡◌, ◌&&◌, not, ℕ, ◌<◌, eqb, ℤ, pos, ◌-ℤ◌}
use Rattle.rules.specs.Sums.{one_if, sum_pixels}
use Rattle.rules.specs.Frames.{Frame}
use Rattle.rules.specs.Planes.{within}

-- a frame's two bit planes
pub record Planes : Type 0 where
  pub threshold : Frame
  pub exclusion : Frame

-- the same bits at every pixel of the frame
pub record SamePlanes (w h : ℕ) (a b : Planes) : Type 0 where
  pub thresholds : (x y : ℕ) → x < w → y < h → a.threshold x y ≡ b.threshold x y
  pub exclusions : (x y : ℕ) → x < w → y < h → a.exclusion x y ≡ b.exclusion x y

-- 1 for two pixels "with both exclusion bits 1 and the threshold bits unequal", else 0
unfoldable pub differ : Planes → Planes → ℕ → ℕ → ℕ → ℕ → ℕ
differ a b x y x' y' =
    one_if (eqb (a.exclusion x y) 1 && (eqb (b.exclusion x' y') 1 && not (eqb (a.threshold x y) (b.threshold x' y'))))

-- 1 for two pixels with "both exclusion bits 1", else 0
unfoldable pub keep : Planes → Planes → ℕ → ℕ → ℕ → ℕ → ℕ
keep a b x y x' y' = one_if (eqb (a.exclusion x y) 1 && eqb (b.exclusion x' y') 1)

-- a test of pixel (x, y) and its "partner (x−dx, y−dy) in the second frame", 0 unless the partner "lies in it"
unfoldable pub with_partner : ℕ → ℕ → ℤ → ℤ → (ℕ → ℕ → ℕ → ℕ → ℕ) → Frame
with_partner w h dx dy test x y = within w (pos x -ℤ dx) (λ x'. within h (pos y -ℤ dy) (λ y'. test x y x' y'))

-- "Difference count at (dx,dy)"
unfoldable pub difference : ℕ → ℕ → ℤ → ℤ → Planes → Planes → ℕ
difference w h dx dy a b = sum_pixels w h (with_partner w h dx dy (differ a b))

-- "the compared number: pixels with a partner in the frame and both exclusion bits 1" (document 02, Paper 2)
unfoldable pub compared : ℕ → ℕ → ℤ → ℤ → Planes → Planes → ℕ
compared w h dx dy a b = sum_pixels w h (with_partner w h dx dy (keep a b))

-- the pixels of the overlap: those with a partner in the frame
unfoldable pub overlap : ℕ → ℕ → ℤ → ℤ → ℕ
overlap w h dx dy = sum_pixels w h (with_partner w h dx dy (λ x y x' y'. 1))
