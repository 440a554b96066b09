-- Quadrants by example (document 02, Paper 4), each computed from the definitions (in proofs/ExampleQuadrants.antt).
use Rattle.std.specs.Prelude.{◌≡◌, true, false, List, [], ◌∷◌, ◌++◌, map, ℕ, zero, suc, ℤ, pos, negsuc, length, take, drop}
use Rattle.rules.specs.declared.Offset.{Offset}
use Rattle.rules.specs.Greys.{grey_frame}
use Rattle.rules.specs.Thresholds.{threshold}
use Rattle.rules.specs.Levels.{least_move_order}
use Rattle.rules.specs.Refusals.{tolerance_refusal}
use Rattle.rules.specs.Calls.{tolerance_setup}
use Rattle.rules.specs.Examples.{first_rows, second_rows, colourless}
use Rattle.crop.specs.declared.Quadrant.{Quadrant}
use Rattle.crop.specs.Crops.{cropped}
use Rattle.crop.specs.Quadrants.{quadrant_crop, all_quadrants}
use Rattle.rotation.specs.Turns.{turned}
use Rattle.quadrant_refusals.specs.QuadrantRefusals.{quadrants_refusal}
use Rattle.four_quadrants.specs.FourOffsets.{four_offsets}

-- the quadrants of a raster of w by h
abbrev pub quadrants_of : ℕ → ℕ → List ℕ → List (List ℕ)
quadrants_of w h raster = map (λ q. cropped w (quadrant_crop w h q) raster) all_quadrants

abbrev pub at : ℤ → ℤ → Offset
at dx dy = record { dx = dx; dy = dy }

-- n rows of two grey frames of four columns side by side, with a column of 255 between them
abbrev pub beside : ℕ → List ℕ → List ℕ → List ℕ
beside zero a b = []
beside (suc n) a b = take 4 a ++ (255 ∷ take 4 b) ++ beside n (drop 4 a) (drop 4 b)

-- four grey frames of 4 by 4 as the quadrants of a raster of 9 by 9, whose middle column and row are 255
abbrev pub nine_by_nine : List ℕ → List ℕ → List ℕ → List ℕ → List ℕ
nine_by_nine a b c d = colourless (beside 4 a b ++ (255 ∷ 255 ∷ 255 ∷ 255 ∷ 255 ∷ 255 ∷ 255 ∷ 255 ∷ 255 ∷ []) ++ beside 4 c d)

abbrev pub dull : List ℕ
dull = 50 ∷ 50 ∷ 50 ∷ 50 ∷ 50 ∷ 50 ∷ 50 ∷ 50 ∷ 50 ∷ 50 ∷ 50 ∷ 50 ∷ 50 ∷ 50 ∷ 50 ∷ 50 ∷ []

-- document 01's printed frames, in the upper left as they are and in the lower right the other way round; flat sky in the other two
abbrev pub turned_first : List ℕ
turned_first = nine_by_nine (first_rows 10 20 90) dull dull (second_rows 10 20 90)

abbrev pub turned_second : List ℕ
turned_second = nine_by_nine (second_rows 10 20 90) dull dull (first_rows 10 20 90)

pub record QuadrantExamples : Type 0 where
  -- of 3 by 3 pixels the quadrants are the corners: the middle column and row belong to none
  pub corners : quadrants_of 3 3 (colourless (1 ∷ 2 ∷ 3 ∷ 4 ∷ 5 ∷ 6 ∷ 7 ∷ 8 ∷ 9 ∷ [])) ≡ map (λ v. v ∷ v ∷ v ∷ []) (1 ∷ 3 ∷ 7 ∷ 9 ∷ [])
  -- of 2 by 3, the upper and the lower row; three bytes a pixel
  pub colours : quadrants_of 2 3 (1 ∷ 2 ∷ 3 ∷ 4 ∷ 5 ∷ 6 ∷ 7 ∷ 8 ∷ 9 ∷ 10 ∷ 11 ∷ 12 ∷ 13 ∷ 14 ∷ 15 ∷ 16 ∷ 17 ∷ 18 ∷ [])
      ≡ (1 ∷ 2 ∷ 3 ∷ []) ∷ (4 ∷ 5 ∷ 6 ∷ []) ∷ (13 ∷ 14 ∷ 15 ∷ []) ∷ (16 ∷ 17 ∷ 18 ∷ []) ∷ []
  -- a difference of 1 on both axes is no turn, one of 2 is, also where only the upper two, only the diagonal or only dy has it
  pub straight : turned (at (pos 0) (pos 0) ∷ at (pos 1) (pos 1) ∷ at (pos 1) (pos 0) ∷ at (pos 0) (pos 1) ∷ []) ≡ false
  pub upper : turned (at (pos 0) (pos 0) ∷ at (pos 2) (pos 0) ∷ at (pos 1) (pos 0) ∷ at (pos 1) (pos 0) ∷ []) ≡ true
  pub diagonal : turned (at (pos 1) (pos 0) ∷ at (pos 0) (pos 0) ∷ at (pos 0) (pos 0) ∷ at (negsuc 0) (pos 0) ∷ []) ≡ true
  pub lower : turned (at (pos 0) (pos 0) ∷ at (pos 0) (pos 0) ∷ at (pos 0) (pos 1) ∷ at (pos 0) (negsuc 0) ∷ []) ≡ true
  -- 9 by 9 is accepted without halving, with the memory of a pair of 4 by 4; 9 by 7 is too small, and so is a width of 1; s is tested before that, the tolerance after it
  pub accepted : quadrants_refusal 9 9 0 (tolerance_refusal 0) 50 (length turned_first) (length turned_second) 8 32 24 ≡ 0
  pub less_memory : quadrants_refusal 9 9 0 (tolerance_refusal 0) 50 243 243 8 31 24 ≡ 11
  pub seven_numbers : quadrants_refusal 9 9 0 (tolerance_refusal 0) 50 243 243 7 31 24 ≡ 10
  pub too_small : quadrants_refusal 9 7 0 (tolerance_refusal 65) 50 189 189 8 32 24 ≡ 4
  pub narrow : quadrants_refusal 1 9 0 (tolerance_refusal 0) 50 27 27 8 32 24 ≡ 4
  pub narrow_halved : quadrants_refusal 1 9 9 (tolerance_refusal 0) 50 27 27 8 32 24 ≡ 3
  -- the four offsets; only those of upper left and lower right differ by 2
  pub offsets : four_offsets least_move_order (tolerance_setup 9 9 0 0 50) turned_first turned_second ≡ at (negsuc 0) (pos 0) ∷ at (pos 0) (pos 0) ∷ at (pos 0) (pos 0) ∷ at (pos 1) (pos 0) ∷ []
  pub turns : turned (four_offsets least_move_order (tolerance_setup 9 9 0 0 50) turned_first turned_second) ≡ true
  -- each quadrant has a threshold of its own, not that of the whole frame
  pub whole_threshold : threshold 9 9 50 (grey_frame 9 turned_first) ≡ 50
  pub own_threshold : threshold 4 4 50 (grey_frame 4 (cropped 9 (quadrant_crop 9 9 Quadrant.UpperLeft) turned_first)) ≡ 20
