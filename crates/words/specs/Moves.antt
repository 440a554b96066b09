-- Rows moved sideways by a number of pixels that is counted from the bias, and a move as it is worked out once for all rows.
use Rattle.std.specs.Prelude.{◌≡◌, List, ℕ, ◌+◌, ◌-◌, ◌/◌, ◌%◌, ◌≤◌, ◌<◌}
use Rattle.rules.specs.Limits.{max_side, word_bits}
use Rattle.rules.specs.Bitmaps.{bit, row_words}
use Rattle.words.specs.Rows.{row_bit, back, bias, bias_words}

-- pixel x of the row of w pixels whose words begin at `from`, moved by d places, d counted from the bias
unfoldable pub moved_bit : List ℕ → ℕ → ℕ → ℕ → ℕ → ℕ
moved_bit words from w d x = back (row_bit words from w) d (bias + x)

-- the bits of `high` moved up by r, below them the topmost r bits of `low`
pub record Joined (high low r v : ℕ) : Type 0 where
  pub above : (i : ℕ) → r ≤ i → i < word_bits → bit v i ≡ bit high (i - r)
  pub below : (i : ℕ) → i < r → bit v i ≡ bit low (word_bits - r + i)

-- word k of a moved row is made of two words of the row, and each of the three is one of the row's full words
pub record Interior (full q k : ℕ) : Type 0 where
  pub here : k < full
  pub low : q + 1 ≤ k + bias_words
  pub high : k + bias_words < q + full

-- a move of rows of w pixels as it is worked out: its words from `first` up to `end` are interior, those up to `rest` in blocks of seven
pub record MoveOf (w n q r first rest end : ℕ) : Type 0 where
  pub width : w ≤ max_side
  pub row : n ≡ row_words w
  pub bits : r < word_bits
  pub sevens : (first ≤ rest) × ((rest - first) % 7 ≡ 0)
  pub rests : rest ≤ end
  pub ends : end ≤ n
  pub inside : (k : ℕ) → first ≤ k → k < end → Interior (w / word_bits) q k
