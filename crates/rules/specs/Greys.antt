-- Pixel rules: grey and halving.
use Rattle.std.specs.Prelude.{cond, List, [], ◌∷◌, ℕ, ◌+◌, ◌*◌, ◌/◌, leb, get_or}
use Rattle.rules.specs.Frames.{Frame}

-- "Grey = (54·R + 183·G + 19·B) / 256, rounded down."
unfoldable pub grey : ℕ → ℕ → ℕ → ℕ
grey r g b = (54 * r + 183 * g + 19 * b) / 256

-- the grey frame of a raster of width w: "rows from the top, three bytes a pixel: R, G, B"
unfoldable pub grey_frame : ℕ → List ℕ → Frame
grey_frame w raster x y =
    grey (get_or raster (3 * (y * w + x)) 0) (get_or raster (3 * (y * w + x) + 1) 0) (get_or raster (3 * (y * w + x) + 2) 0)

-- a list in rising order, repeats kept
unfoldable pub insert : ℕ → List ℕ → List ℕ
insert a [] = a ∷ []
insert a (b ∷ l) = cond (leb a b) (a ∷ b ∷ l) (b ∷ insert a l)

unfoldable pub sorted : List ℕ → List ℕ
sorted [] = []
sorted (a ∷ l) = insert a (sorted l)

-- "the second smallest, repeats counted", of four
unfoldable pub second_smallest : ℕ → ℕ → ℕ → ℕ → ℕ
second_smallest a b c d = get_or (sorted (a ∷ b ∷ c ∷ d ∷ [])) 1 0

-- "Halving gives floor(w/2) by floor(h/2) … Each new pixel is the second smallest … of its four."
unfoldable pub halved : Frame → Frame
halved f x y = second_smallest (f (2 * x) (2 * y)) (f (2 * x + 1) (2 * y)) (f (2 * x) (2 * y + 1)) (f (2 * x + 1) (2 * y + 1))
