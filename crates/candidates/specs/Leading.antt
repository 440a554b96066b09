-- Counts by rank, and what the search for the first least keeps.
use Rattle.std.specs.Prelude.{List, ℕ, ◌+◌, ◌≤◌, ◌<◌, get_or}

-- the count of the candidate of rank j, where the counts stand from place `at` on in Ward's order
abbrev pub counts_by : List ℕ → ℕ → List ℕ → ℕ → ℕ
counts_by counts at places j = get_or counts (at + get_or places j 0) 0

-- of the first k numbers of a row, the one at `best` is least, and every one before it is greater
pub record Leading (row : ℕ → ℕ) (k best : ℕ) : Type 0 where
  pub inside : best < k
  pub least : (j : ℕ) → j < k → row best ≤ row j
  pub first : (j : ℕ) → j < best → row best < row j
