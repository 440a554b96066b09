-- A quadrant's offset rests on the quadrant's own pixels: neither another quadrant nor the odd middle column or row has a say, nor any threshold of the whole frame.
use Rattle.std.specs.Prelude.{◌≡◌, List, ℕ, ◌/◌, ℤ, Result, Bool}
use Rattle.rules.specs.declared.Offset.{Offset}
use Rattle.rules.specs.declared.Setup.{Setup}
use Rattle.rules.specs.Frames.{SameFrame}
use Rattle.rules.specs.Greys.{grey_frame}
use Rattle.crop.specs.declared.Quadrant.{Quadrant}
use Rattle.crop.specs.Crops.{part}
use Rattle.crop.specs.Quadrants.{quadrant_crop}
use Rattle.quadrants.specs.QuadrantsCalls.{quadrants_number, QuadrantsCall}
use Rattle.quadrant_theorems.specs.CroppedPairs.{offset_of}

-- two rasters with the same grey values in a quadrant
abbrev pub SameQuadrant : Setup → Quadrant → List ℕ → List ℕ → Type 0
SameQuadrant S q raster raster' =
    SameFrame (S.w / 2) (S.h / 2) (part (quadrant_crop S.w S.h q) (grey_frame S.w raster)) (part (quadrant_crop S.w S.h q) (grey_frame S.w raster'))

-- Of every two accepted calls with the same sizes and settings: where both frames agree in a quadrant, its offset is the same (proved in proofs/CallLaws.antt as
-- `own-pixels`).
abbrev pub OwnPixels : Type 0
OwnPixels =
    (order : List Offset) (S : Setup) (first first' second second' : List ℕ) (offsets out offsets' out' : List ℤ)
    (grey grey_after grey' grey_after' words words_after words' words_after' : List ℕ) (r r' : Result Bool ℕ)
    → quadrants_number S first second offsets grey words ≡ 0 → QuadrantsCall order S first second offsets out grey grey_after words words_after r
    → quadrants_number S first' second' offsets' grey' words' ≡ 0 → QuadrantsCall order S first' second' offsets' out' grey' grey_after' words' words_after' r'
    → (q : Quadrant) → SameQuadrant S q first first' → SameQuadrant S q second second'
    → offset_of q out ≡ offset_of q out'
