-- Paper 5. One row's result, from the quotient and the remainder of its move by the bits of a word, and from nothing else of the move.
use Rattle.std.specs.Prelude.{◌≡◌, cond, List, ℕ, ◌+◌, ◌*◌, ◌-◌, ◌<◌, ltb, ℤ, pos, ◌-ℤ◌}
use Rattle.std.specs.Int.{w32}
use Rattle.std.proofs.Common.{SFits}
use Rattle.rules.specs.Limits.{word_bits}
use Rattle.rules.specs.Sums.{gate}
use Rattle.rules.specs.Planes.{within, shifted}
use Rattle.rules.specs.Bitmaps.{bit_at, row_words, word, word_of}
use Rattle.words.specs.declared.moves.Move.{Move}
use Rattle.words.specs.Rows.{row_bit, back, bias_of, bias_words}
use Rattle.words.specs.Moves.{moved_bit}

-- bit i of word j of the row of w pixels whose words begin at `from`; bits past w read as 0
abbrev pub word_bit : List ℕ → ℕ → ℕ → ℕ → ℕ → ℕ
word_bit words from w i j = row_bit words from w (j * word_bits + i)

-- bit i of word k of the row moved to the right by q words, counted from the bias, and r bits: r bits lower in the word q before it; the lowest r bits are the topmost of the word before that one
unfoldable pub joined_bit : List ℕ → ℕ → ℕ → ℕ → ℕ → ℕ → ℕ → ℕ
joined_bit words from w q r k i =
    cond (ltb i r) (back (word_bit words from w (word_bits - r + i)) (q + 1) (bias_words + k)) (back (word_bit words from w (i - r)) q (bias_words + k))

-- word k of the moved row, with its bits past w as 0
unfoldable pub moved_word : List ℕ → ℕ → ℕ → ℕ → ℕ → ℕ → ℕ
moved_word words from w q r k = word (λ i. gate (ltb (k * word_bits + i) w) (joined_bit words from w q r k i))

-- the same of a move as it was worked out
abbrev pub moved_row : List ℕ → ℕ → Move → ℕ → ℕ
moved_row words from m = moved_word words from m.w m.q m.r

-- It is the row moved by 64·q + r pixels.
abbrev pub ByPixels : Type 0
ByPixels = (words : List ℕ) (from w q r k : ℕ) → r < word_bits
    → moved_word words from w q r k ≡ word (λ i. gate (ltb (k * word_bits + i) w) (moved_bit words from w (q * word_bits + r) (k * word_bits + i)))

-- row y of a bitmap of h rows that is moved down by dy has row z as its source
abbrev pub SourceRow : ℕ → ℤ → ℕ → ℕ → Type 0
SourceRow h dy y z = (f : ℕ → ℕ) → within h (pos y -ℤ dy) f ≡ f z

-- Whatever quotient and remainder make up dx, counted from the bias, for every signed dx: they move the source row to its place in document 01's shifted bitmap.
abbrev pub ShiftedRow : Type 0
ShiftedRow = (bitmap : List ℕ) (w h y z : ℕ) (dx dy : ℤ) (q r : ℕ) → SFits w32 dx → r < word_bits → q * word_bits + r ≡ bias_of dx → z < h → SourceRow h dy y z
    → (k : ℕ) → moved_word bitmap (z * row_words w) w q r k ≡ word_of w (shifted w h dx dy (bit_at w h bitmap)) k y
