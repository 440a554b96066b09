-- The rows of a shifted bitmap: rows of the bitmap, moved and put in their places.
use Rattle.std.specs.Prelude.{List, ℕ, ◌+◌, ◌*◌, ◌≤◌, ltb}
use Rattle.rules.specs.Limits.{max_side}
use Rattle.rules.specs.Sums.{gate}
use Rattle.rules.specs.Frames.{Frame}
use Rattle.words.specs.declared.moves.Move.{Move}
use Rattle.words.specs.Rows.{back, bias}
use Rattle.words.specs.MovedRows.{moved_row}

-- a word of a row that has no source row
abbrev pub blank : ℕ → ℕ
blank k = 0

-- row y: the row e above it, counted from the bias, moved, if there is one
unfoldable pub placed_row : List ℕ → ℕ → Move → ℕ → ℕ → ℕ → ℕ
placed_row src h m e y k = back (λ z. gate (ltb z h) (moved_row src (z * m.n) m k)) e (bias + y)

-- all rows, word k of row y
abbrev pub placed_rows : List ℕ → ℕ → Move → ℕ → Frame
placed_rows src h m e k y = placed_row src h m e y k

-- what the rows' functions may assume of sizes and lengths; n is the words of a row
pub record Sized (h n src out : ℕ) : Type 0 where
  pub height : h ≤ max_side
  pub source : n * h ≤ src
  pub room : n * h ≤ out
