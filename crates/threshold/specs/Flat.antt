-- Document 01's threshold said of a list of grey values, with no width or height, and of the counts of its values.
use Rattle.std.specs.Prelude.{List, ℕ, ◌+◌, ◌*◌, leb, length, get_or}
use Rattle.rules.specs.Limits.{max_grey}
use Rattle.rules.specs.Sums.{one_if, sum}
use Rattle.rules.specs.Thresholds.{least}

-- "(pixels at most v)"
unfoldable pub at_most_in : List ℕ → ℕ → ℕ
at_most_in l v = sum (length l) (λ i. one_if (leb (get_or l i 0) v))

-- "the smallest grey value v with 100·(pixels at most v) ≥ P·w·h"
unfoldable pub threshold_in : ℕ → List ℕ → ℕ
threshold_in percentile l = least max_grey (λ v. leb (percentile * length l) (100 * at_most_in l v))

-- "The walk over the 256 grey counts ends at the first value that reaches it." The counts are added as far as v.
unfoldable pub first_reaching : ℕ → List ℕ → ℕ
first_reaching goal counts = least max_grey (λ v. leb goal (100 * sum (v + 1) (λ k. get_or counts k 0)))
