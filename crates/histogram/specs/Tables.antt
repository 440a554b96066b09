-- The four tables that the histogram counts in, each with a place for each of the 256 grey values.
use Rattle.std.specs.Prelude.{◌≡◌, List, ℕ, ◌+◌, ◌<◌, eqb, length, get_or}
use Rattle.rules.specs.Sums.{one_if}
use Rattle.histogram.specs.Counts.{max_pixels, count_to}

-- a table with room for one more of a value
abbrev pub Room : List ℕ → ℕ → Type 0
Room table value = (length table ≡ 256) × (get_or table value 0 < max_pixels)

-- a table after one more of a value
pub record Bumped (value : ℕ) (before after : List ℕ) : Type 0 where
  pub size : length after ≡ length before
  pub counts : (v : ℕ) → get_or after v 0 ≡ get_or before v 0 + one_if (eqb value v)

-- what four tables together count of a value
abbrev pub four : List ℕ → List ℕ → List ℕ → List ℕ → ℕ → ℕ
four a b c d v = get_or a v 0 + get_or b v 0 + get_or c v 0 + get_or d v 0

-- four tables that together count the first n places of a list
pub record Tally (l : List ℕ) (n : ℕ) (a b c d : List ℕ) : Type 0 where
  pub sizes : (length a ≡ 256) × (length b ≡ 256) × (length c ≡ 256) × (length d ≡ 256)
  pub counts : (v : ℕ) → four a b c d v ≡ count_to l n v
