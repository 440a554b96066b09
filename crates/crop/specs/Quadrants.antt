-- The four quadrants of a frame (document 02, Paper 4).
use Rattle.std.specs.Prelude.{List, [], ◌∷◌, ℕ, ◌-◌, ◌/◌}
use Rattle.crop.specs.declared.Crop.{Crop}
use Rattle.crop.specs.declared.Quadrant.{Quadrant}

-- "each floor(w/2) by floor(h/2), the odd middle column or row left out": so the right ones begin at column w − floor(w/2) …
abbrev pub left_of : ℕ → Quadrant → ℕ
left_of w Quadrant.UpperLeft = 0
left_of w Quadrant.UpperRight = w - w / 2
left_of w Quadrant.LowerLeft = 0
left_of w Quadrant.LowerRight = w - w / 2

-- … and the lower ones at row h − floor(h/2)
abbrev pub top_of : ℕ → Quadrant → ℕ
top_of h Quadrant.UpperLeft = 0
top_of h Quadrant.UpperRight = 0
top_of h Quadrant.LowerLeft = h - h / 2
top_of h Quadrant.LowerRight = h - h / 2

-- w by h pixels from this column and this row on
abbrev pub crop_at : ℕ → ℕ → ℕ → ℕ → Crop
crop_at left top w h = record { left = left; top = top; w = w; h = h }

-- a quadrant of a frame of w by h
abbrev pub quadrant_crop : ℕ → ℕ → Quadrant → Crop
quadrant_crop w h q = crop_at (left_of w q) (top_of h q) (w / 2) (h / 2)

-- in the order in which they are told: "upper left, upper right, lower left, lower right"
abbrev pub all_quadrants : List Quadrant
all_quadrants = Quadrant.UpperLeft ∷ Quadrant.UpperRight ∷ Quadrant.LowerLeft ∷ Quadrant.LowerRight ∷ []
