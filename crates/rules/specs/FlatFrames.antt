-- Flat frames: "Two equal flat frames, s=2, 16 by 16: all 27 counts 0, offset (−7,−7)" in Ward's order; "the flat plate gives (0,0) by the new pair" (document 02,
-- Paper 1). So it is for every grey value, size, tolerance and percentile from 1 to 99: each pixel has the threshold's grey value and is left out, so every count
-- and every compared number is 0, and each level takes the first candidate of the order.
-- Hence document 000's function "reaches 2^(s+1)−1", and no smaller bound holds for a pair in Ward's order.
use Rattle.std.specs.Prelude.{◌≡◌, List, [], ◌∷◌, ℕ, zero, suc, ◌+◌, ◌*◌, ◌≤◌, pos, negsuc}
use Rattle.rules.specs.declared.Offset.{Offset}
use Rattle.rules.specs.Limits.{max_grey}
use Rattle.rules.specs.Frames.{Frame, SameFrame}
use Rattle.rules.specs.Greys.{grey_frame}
use Rattle.rules.specs.Levels.{still, ward_order, least_move_order, Aligned}
use Rattle.rules.specs.Refusals.{tolerance_refusal, pair_refusal}
use Rattle.rules.specs.Calls.{tolerance_setup, pair_result}
use Rattle.rules.specs.BlankSky.{corner}

-- the same grey value at every pixel, and a raster whose pixels all have it
abbrev pub flat : ℕ → Frame
flat v x y = v

abbrev pub FlatRaster : ℕ → ℕ → ℕ → List ℕ → Type 0
FlatRaster w h v raster = SameFrame w h (grey_frame w raster) (flat v)

-- n zeros
abbrev pub zeros : ℕ → List ℕ
zeros zero = []
zeros (suc n) = 0 ∷ zeros n

-- an offset, and s + 1 levels of counts and compared numbers of 0
abbrev pub blank : ℕ → Offset → Aligned
blank s m = record { offset = m; counts = zeros (9 * (s + 1)); compared = zeros (9 * (s + 1)) }

-- the results of the two pair calls for two equal flat frames: not moved, and in the corner (proved in proofs/FlatRasterLaws.antt as `flat-frames`)
abbrev pub FlatFrames : Type 0
FlatFrames =
    (w h s tolerance percentile v : ℕ) (first second : List ℕ) → 1 ≤ percentile → percentile ≤ 99 → v ≤ max_grey
    → FlatRaster w h v first → FlatRaster w h v second
    → (pair_result least_move_order (tolerance_setup w h s tolerance percentile) first second ≡ blank s still)
    × (pair_result ward_order (tolerance_setup w h s tolerance percentile) first second ≡ blank s (corner s))

-- document 01's flat frames, 16 by 16 with s = 2: a call accepts them (in buffers of just the lengths needed, T = 0, P = 50), and what comes out (proved there as `flat-plate`)
abbrev pub flat_counts : List ℕ
flat_counts = 0 ∷ 0 ∷ 0 ∷ 0 ∷ 0 ∷ 0 ∷ 0 ∷ 0 ∷ 0 ∷ 0 ∷ 0 ∷ 0 ∷ 0 ∷ 0 ∷ 0 ∷ 0 ∷ 0 ∷ 0 ∷ 0 ∷ 0 ∷ 0 ∷ 0 ∷ 0 ∷ 0 ∷ 0 ∷ 0 ∷ 0 ∷ []

abbrev pub flat_unmoved : Aligned
flat_unmoved = record { offset = record { dx = pos 0; dy = pos 0 }; counts = flat_counts; compared = flat_counts }

abbrev pub flat_in_corner : Aligned
flat_in_corner = record { offset = record { dx = negsuc 6; dy = negsuc 6 }; counts = flat_counts; compared = flat_counts }

pub record FlatPlate : Type 0 where
  pub accepted : pair_refusal 16 16 2 (tolerance_refusal 0) 50 768 768 27 27 672 96 ≡ 0
  pub answers : (tolerance percentile v : ℕ) (first second : List ℕ) → 1 ≤ percentile → percentile ≤ 99 → v ≤ max_grey
      → FlatRaster 16 16 v first → FlatRaster 16 16 v second
      → (pair_result least_move_order (tolerance_setup 16 16 2 tolerance percentile) first second ≡ flat_unmoved)
      × (pair_result ward_order (tolerance_setup 16 16 2 tolerance percentile) first second ≡ flat_in_corner)
