-- Sums over a row's pixels, word by word, and over a frame's rows.
use mathlib.Core.Path.{◌≡◌, refl, sym, ap, ◌∙◌}
use mathlib.Core.List.{List}
use Prim.Native.Nat.{ℕ, ◌+◌, ◌*◌, ◌-◌, ◌/◌, ◌%◌, ◌≤◌, ◌<◌}
use native.Mathlib.Nat.{add-zero}
use native.Mathlib.Omega.{arith}
use lib.Dec.{ltb}
use lib.ListN.{get_or}
use Rattle.rules.specs.Sums.{sum}
use Rattle.rules.specs.Bitmaps.{bit, bit_at, row_words}
use Rattle.rules.proofs.SumLaws.{gate-le, sum-ext, sum-zero, sum-le, sum_more, sum-split}
use Rattle.rules.proofs.FrameLaws.{row_fits}
use Rattle.words.specs.Rows.{WordOf, row_bit}
use Rattle.words.proofs.BitLaws.{bit-lt, bit-zero}
use Rattle.words.proofs.MoveLaws.{gate-lt, bit_at-row}
use Rattle.popcount.specs.RowCounts.{Adds}

-- one word more of a row
pub word_more : (f : ℕ → ℕ) (k v : ℕ) → WordOf f k v → Adds f k (k + 1) (sum 64 (bit v))
word_more f k v e =
    ap (λ (s : ℕ). sum (k * 64) f + s) (sum-ext 64 (bit v) (λ i. f (k * 64 + i)) e)
    ∙ sym (sum-split (k * 64) 64 f)
    ∙ ap (λ (n : ℕ). sum n f) (let a : k * 64 + 64 ≡ (k + 1) * 64 = omega arith in a)

pub adds_none : (f : ℕ → ℕ) (first : ℕ) → Adds f first first 0
adds_none f first = add-zero (sum (first * 64) f)

pub adds-more : (f : ℕ → ℕ) (first k end count more : ℕ) → Adds f first k count → Adds f k end more → Adds f first end (count + more)
adds-more f first k end count more a b = omega arith

pub word-adds : (f : ℕ → ℕ) (k v bits : ℕ) → WordOf f k v → bits ≡ sum 64 (bit v) → Adds f k (k + 1) bits
word-adds f k v bits d e = rw (← e) at (word_more f k v d)

pub word_next : (f : ℕ → ℕ) (first k count v bits : ℕ) → Adds f first k count → WordOf f k v → bits ≡ sum 64 (bit v)
    → Adds f first (k + 1) (count + bits)
word_next f first k count v bits a d e = adds-more f first k (k + 1) count bits a (word-adds f k v bits d e)

-- seven words more
pub seven-adds : (f : ℕ → ℕ) (k a b c d e g h bits : ℕ)
    → WordOf f k a → WordOf f (k + 1) b → WordOf f (k + 2) c → WordOf f (k + 3) d → WordOf f (k + 4) e → WordOf f (k + 5) g → WordOf f (k + 6) h
    → bits ≡ sum 64 (bit a) + sum 64 (bit b) + sum 64 (bit c) + sum 64 (bit d) + sum 64 (bit e) + sum 64 (bit g) + sum 64 (bit h)
    → Adds f k (k + 7) bits
seven-adds f k a b c d e g h bits p0 p1 p2 p3 p4 p5 p6 o =
    omega (
      arith,
      o,
      word-to k (k + 1) a (omega arith) p0,
      word-to (k + 1) (k + 2) b (omega arith) p1,
      word-to (k + 2) (k + 3) c (omega arith) p2,
      word-to (k + 3) (k + 4) d (omega arith) p3,
      word-to (k + 4) (k + 5) e (omega arith) p4,
      word-to (k + 5) (k + 6) g (omega arith) p5,
      word-to (k + 6) (k + 7) h (omega arith) p6,
    )
  where
    word-to : (k end v : ℕ) → end ≡ k + 1 → WordOf f k v → Adds f k end (sum 64 (bit v))
    word-to k end v l p = rw l (word_more f k v p)

-- eight words more
pub eight-adds : (f : ℕ → ℕ) (k a b c d e g h i bits : ℕ)
    → WordOf f k a → WordOf f (k + 1) b → WordOf f (k + 2) c → WordOf f (k + 3) d → WordOf f (k + 4) e → WordOf f (k + 5) g → WordOf f (k + 6) h → WordOf f (k + 7) i
    → bits ≡ sum 64 (bit a) + sum 64 (bit b) + sum 64 (bit c) + sum 64 (bit d) + sum 64 (bit e) + sum 64 (bit g) + sum 64 (bit h) + sum 64 (bit i)
    → Adds f k (k + 8) bits
eight-adds f k a b c d e g h i bits p0 p1 p2 p3 p4 p5 p6 p7 o =
    let seven = seven-adds f k a b c d e g h _ p0 p1 p2 p3 p4 p5 p6 refl in
    let next : k + 7 + 1 ≡ k + 8 = omega arith in
    rw next at (rw (← o) at (adds-more f k (k + 7) (k + 7 + 1) _ (sum 64 (bit i)) seven (word_more f (k + 7) i p7)))

-- a word that adds nothing
pub word_none : (f : ℕ → ℕ) (k : ℕ) → WordOf f k 0 → Adds f k (k + 1) 0
word_none f k e = let a = word_more f k 0 e in let z = sum-zero 64 (bit 0) (λ i l. bit-zero i) in omega arith

-- nothing is added past the last pixel
pub sum-stop : (m n : ℕ) (f : ℕ → ℕ) → m ≤ n → ((i : ℕ) → m ≤ i → i < n → f i ≡ 0) → sum n f ≡ sum m f
sum-stop m n f l e =
    let d : n ≡ m + (n - m) = omega arith in
    ap (λ (k : ℕ). sum k f) d
    ∙ sum-split m (n - m) f
    ∙ ap (λ (s : ℕ). sum m f + s) (sum-zero (n - m) (λ i. f (m + i)) (λ i k. e (m + i) (omega arith) (omega arith)))
    ∙ add-zero (sum m f)

-- a row's words make up its pixels
pub row-sum : (f : ℕ → ℕ) (w count : ℕ) → ((x : ℕ) → w ≤ x → f x ≡ 0) → Adds f 0 (row_words w) count → count ≡ sum w f
unfolding row_words sum
row-sum f w count e a = let b = sum-stop w (row_words w * 64) f (omega arith) (λ x l m. e x l) in omega arith

-- sums of bits are small
pub bits-le : (n : ℕ) (f : ℕ → ℕ) → ((i : ℕ) → f i < 2) → sum n f ≤ n
bits-le n f b = let a = sum-le n 1 f (λ i l. let c = b i in omega arith) in omega arith

pub word-le : (v : ℕ) → sum 64 (bit v) ≤ 64
word-le v = bits-le 64 (bit v) (bit-lt v)

pub adds-le : (f : ℕ → ℕ) (first end count : ℕ) → ((i : ℕ) → f i < 2) → Adds f first end count → count ≤ end * 64
adds-le f first end count b a = let c = bits-le (end * 64) f b in omega arith

pub rows-le : (f : ℕ → ℕ) (y : ℕ) → ((z : ℕ) → f z ≤ 4096) → sum y f ≤ y * 4096
rows-le f y b = sum-le y 4096 f (λ z l. b z)

-- a row of words
pub row-words-le : (w : ℕ) → w ≤ 4096 → row_words w ≤ 64
unfolding row_words
row-words-le w l = omega arith

pub row-words-all : (w : ℕ) → (w ≤ row_words w * 64) × (row_words w * 64 < w + 64)
unfolding row_words
row-words-all w = (omega arith, omega arith)

pub row_room : (n w h y room : ℕ) → n ≡ row_words w → row_words w * h ≤ room → y < h → y * n + row_words w ≤ room
row_room n w h y room e r l = let a = row_fits (row_words w) h y l in let b = ap (λ (m : ℕ). y * m) e in omega arith

-- a row of a bitmap
pub row_bit-lt : (words : List ℕ) (base w x : ℕ) → row_bit words base w x < 2
unfolding row_bit
row_bit-lt words base w x =
    let a = gate-le (ltb x w) (bit (get_or words (base + x / 64) 0) (x % 64)) in
    let b = bit-lt (get_or words (base + x / 64) 0) (x % 64) in
    omega arith

pub bit_at-in : (w h : ℕ) (words : List ℕ) (x y : ℕ) → y < h → bit_at w h words x y ≡ row_bit words (y * row_words w) w x
bit_at-in w h words x y l = bit_at-row w h words x y ∙ gate-lt y h (row_bit words (y * row_words w) w x) l

-- one row more of a frame
pub rows_more : (f : ℕ → ℕ) (y count more : ℕ) → count ≡ sum y f → more ≡ f y → count + more ≡ sum (y + 1) f
rows_more f y count more a e = let b = sum_more y f in omega arith
