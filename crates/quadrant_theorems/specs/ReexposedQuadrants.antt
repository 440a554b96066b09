-- Demand 3 of the quadrants call: re-exposed frames give the same four offsets and the same answer, since a re-exposed frame's quadrant is the quadrant re-exposed.
use Rattle.std.specs.Prelude.{◌≡◌, List, ℕ, ℤ, length, take, Result, Bool}
use Rattle.rules.specs.declared.Offset.{Offset}
use Rattle.rules.specs.declared.Setup.{Setup}
use Rattle.rules.specs.Greys.{grey_frame}
use Rattle.rules.specs.Levels.{least_move_order, tolerance_in}
use Rattle.rules.specs.Calls.{tolerance_setup}
use Rattle.reexposure.specs.Reexposure.{SameOrder, Bytes}
use Rattle.quadrant_refusals.specs.QuadrantRefusals.{numbers_needed}
use Rattle.quadrants.specs.QuadrantsCalls.{quadrants_number, QuadrantsCall}

-- A frame's raster and another one, both of bytes and of one length, in which "any two pixels compare in grey (darker, equal, brighter)" as in the first.
pub record ReexposedRaster (S : Setup) (raster raster' : List ℕ) : Type 0 where
  pub bytes : Bytes raster
  pub bytes' : Bytes raster'
  pub size : length raster' ≡ length raster
  pub alike : SameOrder S.w S.h (grey_frame S.w raster) (grey_frame S.w raster')

-- what both calls have alike: "F' is accepted too", with the same answer and the same eight numbers
pub record AlikeQuadrants (number' : ℕ) (out out' : List ℤ) (r r' : Result Bool ℕ) : Type 0 where
  pub accepted : number' ≡ 0
  pub answer : r' ≡ r
  pub offsets : take numbers_needed out' ≡ take numbers_needed out

-- what holds of an accepted call for two frames, and of a call for the same frames re-exposed, with the same settings and lent buffers of the same lengths
abbrev pub ReexposedAlike : List Offset → Setup → Type 0
ReexposedAlike order S =
    (first first' second second' : List ℕ) (offsets out offsets' out' : List ℤ)
    (grey grey_after grey' grey_after' words words_after words' words_after' : List ℕ) (r r' : Result Bool ℕ)
    → ReexposedRaster S first first' → ReexposedRaster S second second' → length offsets' ≡ length offsets → length grey' ≡ length grey → length words' ≡ length words
    → quadrants_number S first second offsets grey words ≡ 0 → QuadrantsCall order S first second offsets out grey grey_after words words_after r
    → QuadrantsCall order S first' second' offsets' out' grey' grey_after' words' words_after' r'
    → AlikeQuadrants (quadrants_number S first' second' offsets' grey' words') out out' r r'

-- In every order of the nine, for every setting that is no tolerance above 0 (proved in proofs/ReexposedLaws.antt as `quadrants-alike`).
abbrev pub QuadrantsAlike : Type 0
QuadrantsAlike = (order : List Offset) (S : Setup) → tolerance_in S.exclusion ≡ 0 → ReexposedAlike order S

-- Of the offered call at tolerance 0 (proved there as `alike-at-zero`).
abbrev pub AlikeAtZero : Type 0
AlikeAtZero = (w h s percentile : ℕ) → ReexposedAlike least_move_order (tolerance_setup w h s 0 percentile)
