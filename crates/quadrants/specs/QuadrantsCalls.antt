-- What the quadrants call leaves (document 02, Paper 4): its answer, and what each lent buffer holds when it returns, from the call's inputs alone.
use Rattle.std.specs.Prelude.{◌≡◌, List, ℕ, ℤ, length, Result, Bool}
use Rattle.rules.specs.declared.Offset.{Offset}
use Rattle.rules.specs.declared.Setup.{Setup}
use Rattle.rules.specs.Answers.{buffer_after, answer_for}
use Rattle.rules.specs.Calls.{exclusion_refusal}
use Rattle.rotation.specs.Turns.{turned}
use Rattle.quadrant_refusals.specs.QuadrantRefusals.{quadrants_refusal}
use Rattle.four_quadrants.specs.FourOffsets.{four_offsets, coordinates}

abbrev pub quadrants_number : Setup → List ℕ → List ℕ → List ℤ → List ℕ → List ℕ → ℕ
quadrants_number S first second offsets grey words =
    quadrants_refusal S.w S.h S.s (exclusion_refusal S.exclusion) S.percentile
    (length first) (length second) (length offsets) (length grey) (length words)

-- what a call with this refusal number and these four offsets leaves: its answer, the eight numbers, and on refusal its work memory as it was
pub record QuadrantsLeft (number : ℕ) (four : List Offset) (offsets offsets' : List ℤ) (grey grey' words words' : List ℕ) (r : Result Bool ℕ) : Type 0 where
  pub answered : r ≡ answer_for number (turned four)
  pub offsets_are : offsets' ≡ buffer_after number (coordinates four) offsets
  pub memory_kept : (number ≡ 0 → ⊥) → (grey' ≡ grey) × (words' ≡ words)

-- a quadrants call, in an order of the nine: each lent buffer stands twice, as it was before the call and after it
abbrev pub QuadrantsCall : List Offset → Setup → List ℕ → List ℕ → List ℤ → List ℤ → List ℕ → List ℕ → List ℕ → List ℕ → Result Bool ℕ → Type 0
QuadrantsCall order S first second offsets offsets' grey grey' words words' r =
    QuadrantsLeft (quadrants_number S first second offsets grey words) (four_offsets order S first second) offsets offsets' grey grey' words words' r
