-- The memory of a live bracket (document 02, Paper 7): "36 signed 32-bit numbers (w, h, s, T, percentile, frames held, then each pair's dx and dy, oldest first,
-- unused ones written 0 …) and the newest frame's grey, w·h bytes". Only this file knows the places.
use Rattle.std.specs.Prelude.{List, ◌∷◌, ◌++◌, ℕ, ◌*◌, ◌-◌, ℤ, pos, negsuc, get_or, drop, replicate}
use Rattle.rules.specs.declared.Offset.{Offset}
use Rattle.rules.specs.Series.{offset_list}
use Rattle.offsets.specs.PairOffsets.{pair_offset}
use Rattle.live.specs.declared.Bracket.{Bracket}

-- what a call is handed, and leaves: the numbers, and the newest frame's grey
pub record Memory : Type 0 where
  pub numbers : List ℤ
  pub newest : List ℕ

abbrev pub memory_of : List ℤ → List ℕ → Memory
memory_of numbers newest = record { numbers = numbers; newest = newest }

-- "36 signed 32-bit numbers": six, and then fifteen pairs' dx and dy
abbrev pub held_length : ℕ
held_length = 36

abbrev pub pair_place : ℕ
pair_place = 6

abbrev pub pair_numbers : ℕ
pair_numbers = 30

-- a number that may not be below 0; one that is counts as 65536, which is beyond every limit
unfoldable pub natural : ℤ → ℕ
natural (pos n) = n
natural (negsuc n) = 65536

-- "w, h, s, T, percentile, frames held"
unfoldable pub bracket_of : List ℤ → Bracket
bracket_of numbers = record {
  w = natural (get_or numbers 0 (pos 0));
  h = natural (get_or numbers 1 (pos 0));
  s = natural (get_or numbers 2 (pos 0));
  tolerance = natural (get_or numbers 3 (pos 0));
  percentile = natural (get_or numbers 4 (pos 0));
  frames = natural (get_or numbers 5 (pos 0));
}

-- "then each pair's dx and dy, oldest first", as the series call lists them
abbrev pub held_pair : List ℤ → ℕ → Offset
held_pair numbers k = pair_offset (drop pair_place numbers) k

-- the pairs in use: n frames have n − 1
abbrev pub pairs_in : Bracket → ℕ
pairs_in B = B.frames - 1

-- the 36 numbers of a bracket whose pairs have the offsets d 0, d 1, …: "unused ones written 0"
unfoldable pub layout : Bracket → (ℕ → Offset) → List ℤ
layout B d =
    pos B.w ∷ pos B.h ∷ pos B.s ∷ pos B.tolerance ∷ pos B.percentile ∷ pos B.frames
    ∷ (offset_list (pairs_in B) d ++ replicate (pair_numbers - 2 * pairs_in B) (pos 0))
