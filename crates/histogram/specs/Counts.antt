-- How often each grey value stands in a list of them.
use Rattle.std.specs.Prelude.{◌≡◌, List, ℕ, ◌*◌, ◌<◌, eqb, length, get_or}
use Rattle.rules.specs.Limits.{max_side}
use Rattle.rules.specs.Sums.{one_if, sum}

-- the pixels of the largest frame
abbrev pub max_pixels : ℕ
max_pixels = max_side * max_side

-- how often the value v stands at the first n places of a list
unfoldable pub count_to : List ℕ → ℕ → ℕ → ℕ
count_to l n v = sum n (λ i. one_if (eqb (get_or l i 0) v))

-- how often it stands in the list
abbrev pub count_in : List ℕ → ℕ → ℕ
count_in l v = count_to l (length l) v

-- the pixels that 256 counts count together
abbrev pub total : List ℕ → ℕ
total counts = sum 256 (λ k. get_or counts k 0)

-- the counts of a list's grey values: of each, and of all together
pub record CountsOf (l counts : List ℕ) : Type 0 where
  pub each : (v : ℕ) → v < 256 → get_or counts v 0 ≡ count_in l v
  pub all : total counts ≡ length l
