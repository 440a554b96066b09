-- What is left once a part of the held numbers is written.
use Rattle.std.specs.Prelude.{◌≡◌, List, [], ◌∷◌, ℕ, ◌+◌, ◌≤◌, ◌<◌, ℤ, pos, length, get_or}
use Rattle.rules.specs.declared.Offset.{Offset}
use Rattle.live.specs.declared.Bracket.{Bracket}
use Rattle.live.specs.Held.{held_pair}
use Rattle.live.specs.Steps.{extended}

-- "w, h, s, T, percentile, frames held"
abbrev pub first_numbers : Bracket → List ℤ
first_numbers B = pos B.w ∷ pos B.h ∷ pos B.s ∷ pos B.tolerance ∷ pos B.percentile ∷ pos B.frames ∷ []

-- the numbers from a place on are 0, those before it as they were
pub record ZeroFrom (from : ℕ) (before after : List ℤ) : Type 0 where
  pub len : length after ≡ length before
  pub under : (i : ℕ) → i < from → get_or after i (pos 0) ≡ get_or before i (pos 0)
  pub zeros : (i : ℕ) → from ≤ i → i < length before → get_or after i (pos 0) ≡ pos 0

-- pair k has this offset, the others theirs
pub record PairPut (k : ℕ) (m : Offset) (before after : List ℤ) : Type 0 where
  pub len : length after ≡ length before
  pub pairs : (j : ℕ) → held_pair after j ≡ extended (held_pair before) k m j

-- each of the first n pairs is the one that stood after it
pub record PairDropped (n : ℕ) (before after : List ℤ) : Type 0 where
  pub len : length after ≡ length before
  pub pairs : (k : ℕ) → k < n → held_pair after k ≡ held_pair before (k + 1)
