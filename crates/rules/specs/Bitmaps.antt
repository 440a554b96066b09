-- Packed bitmaps: which bit of which word a pixel is, and the words of a plane.
use Rattle.std.specs.Prelude.{◌&&◌, List, ℕ, ◌+◌, ◌*◌, ◌/◌, ◌%◌, ◌^◌, ltb, get_or}
use Rattle.rules.specs.Limits.{word_bits}
use Rattle.rules.specs.Sums.{gate, sum}
use Rattle.rules.specs.Frames.{Frame, rows}

-- "A bitmap row is W = ceil(w/64) words"
unfoldable pub row_words : ℕ → ℕ
row_words w = (w + 63) / word_bits

-- bit i of a word, "bit 0 the lowest"
unfoldable pub bit : ℕ → ℕ → ℕ
bit v i = v / 2 ^ i % 2

-- "Pixel x is bit x mod 64 … of word floor(x/64). Bits past w are … read as 0." Outside the frame there is no pixel: 0.
unfoldable pub bit_at : ℕ → ℕ → List ℕ → Frame
bit_at w h words x y = gate (ltb x w && ltb y h) (bit (get_or words (y * row_words w + x / word_bits) 0) (x % word_bits))

-- the word whose bit i is f i
unfoldable pub word : (ℕ → ℕ) → ℕ
word f = sum word_bits (λ i. f i * 2 ^ i)

-- word k of row y of a plane: "Bits past w are written 0"
unfoldable pub word_of : ℕ → Frame → Frame
word_of w f k y = word (λ i. gate (ltb (k * word_bits + i) w) (f (k * word_bits + i) y))

-- the words of a plane, row by row
unfoldable pub packed : ℕ → ℕ → Frame → List ℕ
packed w h f = rows (row_words w) h (word_of w f)
