-- Laws of `moved_word`, a word of a moved row from quotient and remainder: that it is the row moved by pixels, what makes it up, what it depends on, and what it is in document 01's words.
use mathlib.Core.Path.{◌≡◌, sym, ap, ◌∙◌}
use mathlib.Core.Bool.{Bool, cond}
use mathlib.Core.Logic.{⊎_elim}
use mathlib.Core.List.{List}
use Prim.Native.Nat.{ℕ, ◌+◌, ◌*◌, ◌-◌, ◌/◌, ◌%◌, ◌^◌, ◌≤◌, ◌<◌}
use native.Mathlib.Omega.{arith}
use lib.Dec.{ltb}
use lib.ListN.{get_or}
use lib.IntN.{ℤ, pos, ◌-ℤ◌}
use mir.Syntax.{w32}
use mir.Val.{SFits}
use borrow.Author.Tests.{lt-ltb, le-ltb}
use Rattle.rules.specs.Sums.{gate}
use Rattle.rules.specs.Planes.{within, shifted}
use Rattle.rules.specs.Bitmaps.{bit, bit_at, row_words, word, word_of}
use Rattle.rules.proofs.SumLaws.{order}
use Rattle.words.specs.Rows.{WordOf, row_bit, back, bias, bias_words, bias_of}
use Rattle.words.specs.Moves.{moved_bit, Joined, Interior}
use Rattle.words.specs.MovedRows.{word_bit, joined_bit, moved_word, ByPixels, SourceRow, ShiftedRow}
use Rattle.words.proofs.BitLaws.{word-ext, word-is}
use Rattle.words.proofs.MoveLaws.{gate-lt, gate-ge, row-words-over, bit_at-row, back_at, back-under, moved_by}
use Rattle.words.proofs.JoinLaws.{WordIn, moved-word, raw-moved}

-- ---- by words and bits, by pixels

-- bit x of the word q before word k, and pixel p moved by d, where that is the same place
word-pixel : (f : ℕ → ℕ) (q x d k p : ℕ) → x < 64 → d + (k * 64 + x) ≡ p + q * 64 → back (λ j. f (j * 64 + x)) q k ≡ back f d p
word-pixel f q x d k p l e = ⊎_elim under at (order k q)
  where
    under : k < q → back (λ j. f (j * 64 + x)) q k ≡ back f d p
    under m = back-under (λ j. f (j * 64 + x)) q k m ∙ sym (back-under f d p (omega arith))

    at : q ≤ k → back (λ j. f (j * 64 + x)) q k ≡ back f d p
    at m = back_at (λ j. f (j * 64 + x)) q (k - q) k (omega arith) ∙ sym (back_at f d ((k - q) * 64 + x) p (omega arith))

joined-pixel : (words : List ℕ) (from w q r k i : ℕ) → r < 64 → i < 64 → joined_bit words from w q r k i ≡ moved_bit words from w (q * 64 + r) (k * 64 + i)
unfolding joined_bit moved_bit
joined-pixel words from w q r k i l m = ⊎_elim below above (order i r)
  where
    low : ℕ
    low = back (word_bit words from w (64 - r + i)) (q + 1) (bias_words + k)

    high : ℕ
    high = back (word_bit words from w (i - r)) q (bias_words + k)

    below : i < r → cond (ltb i r) low high ≡ back (row_bit words from w) (q * 64 + r) (bias + (k * 64 + i))
    below n =
        ap (λ (t : Bool). cond t low high) (lt-ltb i r n)
        ∙ word-pixel (row_bit words from w) (q + 1) (64 - r + i) (q * 64 + r) (bias_words + k) (bias + (k * 64 + i)) (omega arith) (omega arith)

    above : r ≤ i → cond (ltb i r) low high ≡ back (row_bit words from w) (q * 64 + r) (bias + (k * 64 + i))
    above n =
        ap (λ (t : Bool). cond t low high) (le-ltb i r n)
        ∙ word-pixel (row_bit words from w) q (i - r) (q * 64 + r) (bias_words + k) (bias + (k * 64 + i)) (omega arith) (omega arith)

pub by-pixels : ByPixels
unfolding moved_word
by-pixels words from w q r k l =
    word-ext (λ i. gate (ltb (k * 64 + i) w) (joined_bit words from w q r k i)) (λ i. gate (ltb (k * 64 + i) w) (moved_bit words from w (q * 64 + r) (k * 64 + i)))
    (λ i m. ap (gate (ltb (k * 64 + i) w)) (joined-pixel words from w q r k i l m))

-- ---- one word

-- a word with the row's pixels in it and no bit past w
moved-is : (words : List ℕ) (from w q r k v : ℕ) → r < 64 → v < 2 ^ 64 → WordIn w (moved_bit words from w (q * 64 + r)) k v
    → ((i : ℕ) → i < 64 → w ≤ k * 64 + i → bit v i ≡ 0) → v ≡ moved_word words from w q r k
moved-is words from w q r k v n b e z =
    word-is v (λ i. gate (ltb (k * 64 + i) w) (moved_bit words from w d (k * 64 + i))) b same ∙ sym (by-pixels words from w q r k n)
  where
    d : ℕ
    d = q * 64 + r

    same : (i : ℕ) → i < 64 → bit v i ≡ gate (ltb (k * 64 + i) w) (moved_bit words from w d (k * 64 + i))
    same i l =
        ⊎_elim
        (λ (m : k * 64 + i < w). e i l m ∙ sym (gate-lt (k * 64 + i) w (moved_bit words from w d (k * 64 + i)) m))
        (λ (m : w ≤ k * 64 + i). z i l m ∙ sym (gate-ge (k * 64 + i) w (moved_bit words from w d (k * 64 + i)) m))
        (order (k * 64 + i) w)

-- a word of it, masked
pub clipped-moved : (words : List ℕ) (from w q r k v u : ℕ) → r < 64 → u < 2 ^ 64 → WordOf (back (row_bit words from w) (q * 64 + r)) (k + bias_words) v
    → ((i : ℕ) → bit u i ≡ gate (ltb i (w - k * 64)) (bit v i)) → u ≡ moved_word words from w q r k
clipped-moved words from w q r k v u n b s t =
    moved-is words from w q r k u n b
    (λ i l m. t i ∙ gate-lt i (w - k * 64) (bit v i) (omega arith) ∙ moved-word words from w (q * 64 + r) k v s i l)
    (λ i l m. t i ∙ gate-ge i (w - k * 64) (bit v i) (omega arith))

-- an interior word: it is full, and so are the two that it is made of
pub interior-moved : (words : List ℕ) (from w q r k j v : ℕ) → v < 2 ^ 64 → r < 64 → Interior (w / 64) q k → j ≡ from + k + bias_words - q
    → Joined (get_or words j 0) (get_or words (j - 1) 0) r v → v ≡ moved_word words from w q r k
interior-moved words from w q r k j v b l n e a =
    moved-is words from w q r k v l b
    (λ i m x. raw-moved words from w q r k (k + 33554432 - q) j (j - 1) v l (omega (arith, n)) (omega (arith, n)) (omega (arith, n)) (omega (arith, n)) a i m (omega (arith, n)) (omega (arith, n)))
    (λ i m x. absurd (omega (arith, n)))

-- ---- rows whose source stays as it was

-- rows with the same pixels
pub moved_same : (words others : List ℕ) (from base w q r k : ℕ) → ((x : ℕ) → row_bit words from w x ≡ row_bit others base w x)
    → moved_word words from w q r k ≡ moved_word others base w q r k
unfolding moved_word joined_bit
moved_same words others from base w q r k e =
    λ j. word (λ i. gate (ltb (k * 64 + i) w)
    (cond (ltb i r) (back (λ x. e (x * 64 + (64 - r + i)) j) (q + 1) (bias_words + k)) (back (λ x. e (x * 64 + (i - r)) j) q (bias_words + k))))

-- lists that agree under a place have the same rows that end there
row_under : (before after : List ℕ) (to from w : ℕ) → ((m : ℕ) → m < to → get_or after m 0 ≡ get_or before m 0) → from + row_words w ≤ to
    → (x : ℕ) → row_bit after from w x ≡ row_bit before from w x
unfolding row_bit
row_under before after to from w same l x = ⊎_elim inside past (order x w)
  where
    inside : x < w → gate (ltb x w) (bit (get_or after (from + x / 64) 0) (x % 64)) ≡ gate (ltb x w) (bit (get_or before (from + x / 64) 0) (x % 64))
    inside m = let n = row-words-over w (x / 64) (omega arith) in ap (λ (v : ℕ). gate (ltb x w) (bit v (x % 64))) (same (from + x / 64) (omega arith))

    past : w ≤ x → gate (ltb x w) (bit (get_or after (from + x / 64) 0) (x % 64)) ≡ gate (ltb x w) (bit (get_or before (from + x / 64) 0) (x % 64))
    past m =
        gate-ge x w (bit (get_or after (from + x / 64) 0) (x % 64)) m
        ∙ sym (gate-ge x w (bit (get_or before (from + x / 64) 0) (x % 64)) m)

pub moved-under : (before after : List ℕ) (to from w q r k : ℕ) → ((m : ℕ) → m < to → get_or after m 0 ≡ get_or before m 0) → from + row_words w ≤ to
    → moved_word after from w q r k ≡ moved_word before from w q r k
moved-under before after to from w q r k same l = moved_same after before from from w q r k (row_under before after to from w same l)

-- ---- in document 01's words

-- a pixel of row z moved, where row y of a shifted bitmap has its source in row z
pixel-shifted : (words : List ℕ) (w h y z : ℕ) (dx dy : ℤ) → SFits w32 dx → z < h → SourceRow h dy y z
    → (x : ℕ) → moved_bit words (z * row_words w) w (bias_of dx) x ≡ shifted w h dx dy (bit_at w h words) x y
unfolding moved_bit shifted
pixel-shifted words w h y z dx dy b l source x = sym (moved_by words (z * row_words w) w dx b x) ∙ sym (λ i. within w (pos x -ℤ dx) (λ x'. pixel x' i))
  where
    pixel : (x' : ℕ) → within h (pos y -ℤ dy) (λ y'. bit_at w h words x' y') ≡ row_bit words (z * row_words w) w x'
    pixel x' =
        source (λ y'. bit_at w h words x' y')
        ∙ bit_at-row w h words x' z
        ∙ gate-lt z h (row_bit words (z * row_words w) w x') l

pub shifted_row : ShiftedRow
unfolding word_of
shifted_row words w h y z dx dy q r b n e l source k =
    by-pixels words (z * row_words w) w q r k n
    ∙ (λ j. word (λ i. gate (ltb (k * 64 + i) w) (moved_bit words (z * row_words w) w (e j) (k * 64 + i))))
    ∙ (λ j. word (λ i. gate (ltb (k * 64 + i) w) (pixel-shifted words w h y z dx dy b l source (k * 64 + i) j)))
