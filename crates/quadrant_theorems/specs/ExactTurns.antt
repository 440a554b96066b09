-- "say 'turned' exactly when two of them differ by more than 1 on an axis", of what a call has written.
use Rattle.std.specs.Prelude.{◌≡◌, ◌⊎◌, List, ℕ, ◌<◌, ℤ, nat_abs, ◌-ℤ◌, Result, Ok, Bool, true, false}
use Rattle.rules.specs.declared.Offset.{Offset}
use Rattle.rules.specs.declared.Setup.{Setup}
use Rattle.crop.specs.declared.Quadrant.{Quadrant}
use Rattle.quadrants.specs.QuadrantsCalls.{quadrants_number, QuadrantsCall}
use Rattle.quadrant_theorems.specs.CroppedPairs.{offset_of}

-- two of the four offsets written, any two, that differ by more than 1 on an axis
pub record TwoDiffer (offsets : List ℤ) : Type 0 where
  pub one : Quadrant
  pub other : Quadrant
  pub differ : (1 < nat_abs ((offset_of one offsets).dx -ℤ (offset_of other offsets).dx)) ⊎ (1 < nat_abs ((offset_of one offsets).dy -ℤ (offset_of other offsets).dy))

-- what an accepted call says of the offsets that it has written
pub record SaysTurned (offsets : List ℤ) (r : Result Bool ℕ) : Type 0 where
  pub when : TwoDiffer offsets → r ≡ Ok true
  pub only : r ≡ Ok true → TwoDiffer offsets
  pub else : (TwoDiffer offsets → ⊥) → r ≡ Ok false

-- Of every accepted call (proved in proofs/TurnedLaws.antt as `turned-exactly`).
abbrev pub TurnedExactly : Type 0
TurnedExactly =
    (order : List Offset) (S : Setup) (first second : List ℕ) (offsets offsets' : List ℤ) (grey grey' words words' : List ℕ) (r : Result Bool ℕ)
    → quadrants_number S first second offsets grey words ≡ 0 → QuadrantsCall order S first second offsets offsets' grey grey' words words' r
    → SaysTurned offsets' r
