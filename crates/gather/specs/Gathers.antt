-- Numbers known by their bytes, exchanges of bits, and 64 flags as 8 by 8 bits of a word.
use Rattle.std.specs.Prelude.{◌≡◌, List, ℕ, ◌+◌, ◌*◌, ◌/◌, ◌%◌, ◌^◌, ◌<◌, get_or}
use Rattle.std.specs.Int.Bits.{bit_and, bit_xor}
use Rattle.rules.specs.Bitmaps.{bit, word}

-- v has n bytes, and byte k is f k
pub record Bytes (n : ℕ) (f : ℕ → ℕ) (v : ℕ) : Type 0 where
  pub small : v < 2 ^ (8 * n)
  pub bits : (k m : ℕ) → k < n → m < 8 → bit v (8 * k + m) ≡ bit (f k) m

-- the word whose bits, 8 by 8, are the flags f by columns
unfoldable pub by_columns : (ℕ → ℕ) → ℕ
by_columns f = word (λ i. f (8 * (i % 8) + i / 8))

-- word k of those from place `to` on, turned: columns are rows
unfoldable pub turned_at : List ℕ → ℕ → ℕ → ℕ
turned_at words to k = by_columns (bit (get_or words (to + k) 0))

-- the bits of y that differ from those s above, where the mask has a 1
abbrev pub exchange_bits : ℕ → ℕ → ℕ → ℕ
exchange_bits mask s y = bit_and (bit_xor y (y / 2 ^ s)) mask

-- y with bits p and p + s exchanged where bit p of the mask is 1, as a machine does it: both change where they differ
unfoldable pub exchanged : ℕ → ℕ → ℕ → ℕ
exchanged mask s y = bit_xor (bit_xor y (exchange_bits mask s y)) (exchange_bits mask s y * 2 ^ s % 2 ^ 64)
