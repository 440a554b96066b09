-- The pixels of one packed row, and a row moved to the right. Signed moves are counted from a bias, so that one formula serves both directions.
use Rattle.std.specs.Prelude.{◌≡◌, List, ℕ, suc, ◌+◌, ◌*◌, ◌-◌, ◌/◌, ◌%◌, ◌<◌, ltb, leb, get_or, ℤ, pos, negsuc}
use Rattle.rules.specs.Limits.{word_bits}
use Rattle.rules.specs.Sums.{gate}
use Rattle.rules.specs.Bitmaps.{bit}

-- pixel x of the row of w pixels whose words begin at place `base`; bits past w read as 0
unfoldable pub row_bit : List ℕ → ℕ → ℕ → ℕ → ℕ
row_bit words base w x = gate (ltb x w) (bit (get_or words (base + x / word_bits) 0) (x % word_bits))

-- f moved to the right by d: f at x − d, 0 where x < d
unfoldable pub back : (ℕ → ℕ) → ℕ → ℕ → ℕ
back f d x = gate (leb d x) (f (x - d))

-- v is word k of the pixels f, bit by bit
abbrev pub WordOf : (ℕ → ℕ) → ℕ → ℕ → Type 0
WordOf f k v = (i : ℕ) → i < word_bits → bit v i ≡ f (k * word_bits + i)

-- the bias, 2 ^ 31: the least signed 32-bit number plus it is 0
abbrev pub bias : ℕ
bias = 2147483648

-- the bias in words, 2 ^ 31 / 64
abbrev pub bias_words : ℕ
bias_words = 33554432

-- a signed 32-bit number plus the bias
unfoldable pub bias_of : ℤ → ℕ
bias_of (pos n) = bias + n
bias_of (negsuc n) = bias - suc n
