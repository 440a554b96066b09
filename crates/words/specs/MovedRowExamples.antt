-- Rows moved by quotient and remainder, worked out: two words that hold 70 pixels.
use Rattle.std.specs.Prelude.{◌≡◌, List, [], ◌∷◌, ℕ, ◌+◌, ◌/◌, ◌%◌, ◌^◌, ℤ, pos, negsuc}
use Rattle.rules.specs.Limits.{word_bits}
use Rattle.words.specs.Rows.{bias_of}
use Rattle.words.specs.MovedRows.{moved_word}

-- pixels 0 and 63 are 1
abbrev pub low : List ℕ
low = (2 ^ 63 + 1) ∷ (0 ∷ [])

-- pixels 64 and 69 are 1; so is a bit past the width
abbrev pub high : List ℕ
high = 0 ∷ ((1 + 2 ^ 5 + 2 ^ 6) ∷ [])

-- word k of a row moved by dx
abbrev pub moved : List ℕ → ℤ → ℕ → ℕ
moved row dx = moved_word row 0 70 (bias_of dx / word_bits) (bias_of dx % word_bits)

pub record MovedRowExamples : Type 0 where
  -- by 3, quotient 0: pixels 3 and 66
  pub right : (moved low (pos 3) 0 ≡ 2 ^ 3) × (moved low (pos 3) 1 ≡ 2 ^ 2)
  -- by 64, remainder 0: pixel 64; the other leaves the row
  pub word : (moved low (pos 64) 0 ≡ 0) × (moved low (pos 64) 1 ≡ 1)
  -- by −1, quotient −1 and remainder 63: pixels 63 and 68; what stood past the width is no pixel
  pub left : (moved high (negsuc 0) 0 ≡ 2 ^ 63) × (moved high (negsuc 0) 1 ≡ 2 ^ 4)
  -- by −64: pixels 0 and 5
  pub back : (moved high (negsuc 63) 0 ≡ 1 + 2 ^ 5) × (moved high (negsuc 63) 1 ≡ 0)
  -- by the lowest signed number: quotient and remainder 0 from the bias, and nothing is left
  pub lowest : (bias_of (negsuc 2147483647) ≡ 0) × ((moved high (negsuc 2147483647) 0 ≡ 0) × (moved high (negsuc 2147483647) 1 ≡ 0))
