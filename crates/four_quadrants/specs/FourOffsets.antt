-- The offsets of the four quadrants (document 02, Paper 4).
use Rattle.std.specs.Prelude.{List, [], ◌∷◌, map, ℕ, zero, suc, ℤ}
use Rattle.rules.specs.declared.Offset.{Offset}
use Rattle.rules.specs.declared.Setup.{Setup}
use Rattle.crop.specs.declared.Quadrant.{Quadrant}
use Rattle.crop.specs.Quadrants.{all_quadrants}
use Rattle.quadrant.specs.QuadrantPairs.{quadrant_offset}

-- "Report the four offsets (upper left, upper right, lower left, lower right; no counts)"
unfoldable pub four_offsets : List Offset → Setup → List ℕ → List ℕ → List Offset
four_offsets order S first second = map (quadrant_offset order S first second) all_quadrants

-- as signed numbers, "dx before dy"
abbrev pub coordinates : List Offset → List ℤ
coordinates [] = []
coordinates (m ∷ ms) = m.dx ∷ m.dy ∷ coordinates ms

-- the quadrant whose offset is number k of the four
abbrev pub quadrant_at : ℕ → Quadrant
quadrant_at zero = Quadrant.UpperLeft
quadrant_at (suc zero) = Quadrant.UpperRight
quadrant_at (suc (suc zero)) = Quadrant.LowerLeft
quadrant_at (suc (suc (suc k))) = Quadrant.LowerRight
