-- Laws of rows and their moves: a row's pixels in its words, the pixels of a moved row, and signed moves as biased ones.
use mathlib.Core.Path.{◌≡◌, refl, sym, ap, ap₂, ◌∙◌}
use mathlib.Core.Bool.{Bool, true, false, ◌&&◌, cond}
use mathlib.Core.Logic.{⊎_elim}
use mathlib.Core.List.{List}
use Prim.Native.Nat.{ℕ, zero, suc, ◌+◌, ◌*◌, ◌-◌, ◌/◌, ◌%◌, ◌^◌, ◌≤◌, ◌<◌}
use native.Mathlib.Nat.{add_comm, one-mul, mod-eq_of_lt}
use native.Mathlib.Omega.{arith}
use lib.Dec.{ltb}
use lib.ListN.{get_or}
use lib.Bits.{bit_and, and_mask}
use lib.Pow.{pow-lt}
use lib.IntN.{ℤ, pos, negsuc, ◌+ℤ◌, ◌-ℤ◌, sub_ℕ}
use mir.Syntax.{w32, w64}
use mir.Val.{SFits, to_z, of_z}
use mir.Facts.{to_z-of_z, sfits_to_z, Fits-of_z, sfits_widen}
use borrow.Author.Tests.{lt-ltb, le-ltb, le-leb, lt-leb}
use Rattle.rules.specs.Sums.{gate}
use Rattle.rules.specs.Planes.{within}
use Rattle.rules.specs.Bitmaps.{bit, bit_at, row_words}
use Rattle.rules.proofs.SumLaws.{order, gate-zero}
use Rattle.words.specs.Rows.{row_bit, back, WordOf, bias, bias_of}
use Rattle.words.proofs.BitLaws.{bit-above, bit-zero, bit-mod-low, bit-mod-high, bit-shl64-high, bit-shl64-low}

-- ---- gates

pub gate-lt : (x n v : ℕ) → x < n → gate (ltb x n) v ≡ v
gate-lt x n v l = ap (λ (t : Bool). gate t v) (lt-ltb x n l)

pub gate-ge : (x n v : ℕ) → n ≤ x → gate (ltb x n) v ≡ 0
gate-ge x n v l = ap (λ (t : Bool). gate t v) (le-ltb x n l)

pub gate-and : (s t : Bool) (v : ℕ) → gate (s && t) v ≡ gate t (gate s v)
gate-and true true v = refl
gate-and true false v = refl
gate-and false true v = refl
gate-and false false v = refl

-- ---- the pixels of a row

pub row-words-over : (w k : ℕ) → k * 64 < w → k < row_words w
unfolding row_words
row-words-over w k l = omega arith

pub row-words-under : (w k : ℕ) → k < row_words w → k * 64 < w
unfolding row_words
row-words-under w k l = omega arith

pub row-words-max : (w : ℕ) → w ≤ 4096 → row_words w ≤ 64
unfolding row_words
row-words-max w l = omega arith

pub row-bit : (words : List ℕ) (base w k i : ℕ) → k * 64 + i < w → i < 64 → row_bit words base w (k * 64 + i) ≡ bit (get_or words (base + k) 0) i
unfolding row_bit
row-bit words base w k i l m =
    let q : (k * 64 + i) / 64 ≡ k = omega arith in
    let r : (k * 64 + i) % 64 ≡ i = omega arith in
    gate-lt (k * 64 + i) w (bit (get_or words (base + (k * 64 + i) / 64) 0) ((k * 64 + i) % 64)) l
    ∙ ap₂ (λ (a b : ℕ). bit (get_or words (base + a) 0) b) q r

pub row-whole : (words : List ℕ) (base w k : ℕ) → k * 64 + 64 ≤ w → WordOf (row_bit words base w) k (get_or words (base + k) 0)
row-whole words base w k l i m = sym (row-bit words base w k i (omega arith) m)

pub row-past : (words : List ℕ) (base w x : ℕ) → w ≤ x → row_bit words base w x ≡ 0
unfolding row_bit
row-past words base w x l = gate-ge x w (bit (get_or words (base + x / 64) 0) (x % 64)) l

-- the row's last word, masked
pub row_last : (words : List ℕ) (base w k i : ℕ) → k * 64 < w → i < 64
    → gate (ltb i (w - k * 64)) (bit (get_or words (base + k) 0) i) ≡ row_bit words base w (k * 64 + i)
row_last words base w k i l m = ⊎_elim inside past (order i (w - k * 64))
  where
    inside : i < w - k * 64 → gate (ltb i (w - k * 64)) (bit (get_or words (base + k) 0) i) ≡ row_bit words base w (k * 64 + i)
    inside n = gate-lt i (w - k * 64) (bit (get_or words (base + k) 0) i) n ∙ sym (row-bit words base w k i (omega arith) m)

    past : w - k * 64 ≤ i → gate (ltb i (w - k * 64)) (bit (get_or words (base + k) 0) i) ≡ row_bit words base w (k * 64 + i)
    past n = gate-ge i (w - k * 64) (bit (get_or words (base + k) 0) i) n ∙ sym (row-past words base w (k * 64 + i) (omega arith))

pub bit_at-row : (w h : ℕ) (words : List ℕ) (x y : ℕ) → bit_at w h words x y ≡ gate (ltb y h) (row_bit words (y * row_words w) w x)
unfolding bit_at row_bit
bit_at-row w h words x y = gate-and (ltb x w) (ltb y h) (bit (get_or words (y * row_words w + x / 64) 0) (x % 64))

-- ---- the low bits of a word

pub one_bit : (n : ℕ) → n < 64 → 1 * 2 ^ n % 2 ^ 64 ≡ 2 ^ n
one_bit n l = ap (λ (m : ℕ). m % 2 ^ 64) (one-mul (2 ^ n)) ∙ mod-eq_of_lt (pow-lt l)

pub kept_low : (v n : ℕ) → n < 64 → (i : ℕ) → bit (bit_and v (1 * 2 ^ n % 2 ^ 64 - 1)) i ≡ gate (ltb i n) (bit v i)
kept_low v n l i = ap (λ (m : ℕ). bit m i) masked ∙ ⊎_elim below past (order i n)
  where
    masked : bit_and v (1 * 2 ^ n % 2 ^ 64 - 1) ≡ v % 2 ^ n
    masked = ap (λ (m : ℕ). bit_and v (m - 1)) (one_bit n l) ∙ and_mask v n

    below : i < n → bit (v % 2 ^ n) i ≡ gate (ltb i n) (bit v i)
    below m = bit-mod-low v n i m ∙ sym (gate-lt i n (bit v i) m)

    past : n ≤ i → bit (v % 2 ^ n) i ≡ gate (ltb i n) (bit v i)
    past m = bit-mod-high v n i m ∙ sym (gate-ge i n (bit v i) m)

pub kept-all : (v n : ℕ) → v < 2 ^ 64 → 64 ≤ n → (i : ℕ) → bit v i ≡ gate (ltb i n) (bit v i)
kept-all v n b l i =
    ⊎_elim (λ (m : i < n). sym (gate-lt i n (bit v i) m)) (λ (m : n ≤ i). bit-above v 64 i b (omega arith) ∙ sym (gate-ge i n (bit v i) m)) (order i n)

-- ---- a word of a moved row

pub back_at : (f : ℕ → ℕ) (d k x : ℕ) → d + k ≡ x → back f d x ≡ f k
unfolding back
back_at f d k x e =
    let m : x - d ≡ k = omega arith in
    ap (λ (t : Bool). gate t (f (x - d))) (le-leb d x (omega arith)) ∙ ap f m

pub back-under : (f : ℕ → ℕ) (d x : ℕ) → x < d → back f d x ≡ 0
unfolding back
back-under f d x l = ap (λ (t : Bool). gate t (f (x - d))) (lt-leb d x l)

module _ (f : ℕ → ℕ) (k q r : ℕ) where
  -- the word lies left of the moved row
  pub moved_before : k < q → WordOf (back f (q * 64 + r)) k 0
  moved_before l i m = bit-zero i ∙ sym (back-under f (q * 64 + r) (k * 64 + i) (omega arith))

  pub moved-first : (v : ℕ) → q ≡ k → WordOf f 0 v → WordOf (back f (q * 64 + r)) k (v * 2 ^ r % 2 ^ 64)
  moved-first v e s i m =
      ⊎_elim
      (λ (n : i < r). bit-shl64-low v r i n ∙ sym (back-under f (q * 64 + r) (k * 64 + i) (omega arith)))
      (λ (n : r ≤ i). bit-shl64-high v r i n m ∙ s (i - r) (omega arith) ∙ sym (back_at f (q * 64 + r) (0 * 64 + (i - r)) (k * 64 + i) (omega arith)))
      (order i r)

-- ---- signed moves

pub bias-lt : (d : ℤ) → SFits w32 d → bias_of d < 4294967296
unfolding bias_of
bias-lt (pos n) b = omega arith
bias-lt (negsuc n) b = omega arith

bias-sum : (d : ℤ) → SFits w32 d → d +ℤ pos bias ≡ pos (bias_of d)
unfolding bias_of
bias-sum (pos n) b = ap pos (add_comm n bias)
bias-sum (negsuc n) b =
    ap (λ (t : Bool). cond t (negsuc (suc n - suc bias)) (pos (bias - suc n))) (le-ltb bias (suc n) (let s = b.sfits in omega arith))

-- the same of the number as the machine reads it, widened to 64 bits
pub wide_fits : (d : ℤ) → SFits w32 d → SFits w64 (to_z w32 (of_z w32 d))
wide_fits d b = sfits_widen tt (sfits_to_z (Fits-of_z b))

pub wide-sum : (d : ℤ) → SFits w32 d → to_z w64 (of_z w64 (to_z w32 (of_z w32 d))) +ℤ pos bias ≡ pos (bias_of d)
wide-sum d b = ap (λ (z : ℤ). z +ℤ pos bias) (to_z-of_z (wide_fits d b) ∙ to_z-of_z b) ∙ bias-sum d b

pub bias-fits : (d : ℤ) → SFits w32 d → SFits w64 (pos (bias_of d))
bias-fits d b = record { sfits = let l = bias-lt d b in omega arith }

within-pos : (n m : ℕ) (z : ℤ) (f : ℕ → ℕ) → z ≡ pos m → within n z f ≡ gate (ltb m n) (f m)
unfolding within
within-pos n m z f e = ap (λ (y : ℤ). within n y f) e

within-neg : (n m : ℕ) (z : ℤ) (f : ℕ → ℕ) → z ≡ negsuc m → within n z f ≡ 0
unfolding within
within-neg n m z f e = ap (λ (y : ℤ). within n y f) e

pub within-zero : (n : ℕ) (z : ℤ) → within n z (λ k. 0) ≡ 0
unfolding within
within-zero n (pos k) = gate-zero (ltb k n)
within-zero n (negsuc k) = refl

-- a pixel at a signed distance is one at a biased distance
pub within-back : (n x : ℕ) (d : ℤ) (f : ℕ → ℕ) → SFits w32 d
    → within n (pos x -ℤ d) f ≡ back (λ k. gate (ltb k n) (f k)) (bias_of d) (bias + x)
unfolding bias_of
within-back n x (pos zero) f b =
    within-pos n (x + 0) (pos x -ℤ pos zero) f refl
    ∙ sym (back_at (λ k. gate (ltb k n) (f k)) (bias + 0) (x + 0) (bias + x) (omega arith))
within-back n x (pos (suc m)) f b = ⊎_elim under over (order x (suc m))
  where
    under : x < suc m → within n (sub_ℕ x (suc m)) f ≡ back (λ k. gate (ltb k n) (f k)) (bias + suc m) (bias + x)
    under l =
        within-neg n (suc m - suc x) (sub_ℕ x (suc m)) f (ap (λ (t : Bool). cond t (negsuc (suc m - suc x)) (pos (x - suc m))) (lt-ltb x (suc m) l))
        ∙ sym (back-under (λ k. gate (ltb k n) (f k)) (bias + suc m) (bias + x) (omega arith))

    over : suc m ≤ x → within n (sub_ℕ x (suc m)) f ≡ back (λ k. gate (ltb k n) (f k)) (bias + suc m) (bias + x)
    over l =
        within-pos n (x - suc m) (sub_ℕ x (suc m)) f (ap (λ (t : Bool). cond t (negsuc (suc m - suc x)) (pos (x - suc m))) (le-ltb x (suc m) l))
        ∙ sym (back_at (λ k. gate (ltb k n) (f k)) (bias + suc m) (x - suc m) (bias + x) (omega arith))
within-back n x (negsuc m) f b =
    within-pos n (x + suc m) (pos x -ℤ negsuc m) f refl
    ∙ sym (back_at (λ k. gate (ltb k n) (f k)) (bias - suc m) (x + suc m) (bias + x) (let s = b.sfits in omega arith))

-- the three places that a signed distance can lead to, tested on biased numbers
module _ (n x : ℕ) (d : ℤ) (f : ℕ → ℕ) (b : SFits w32 d) where
  pub within-before : bias + x < bias_of d → within n (pos x -ℤ d) f ≡ 0
  within-before l = within-back n x d f b ∙ back-under (λ k. gate (ltb k n) (f k)) (bias_of d) (bias + x) l

  pub within-at : bias_of d ≤ bias + x → bias + x - bias_of d < n → within n (pos x -ℤ d) f ≡ f (bias + x - bias_of d)
  within-at l m =
      within-back n x d f b
      ∙ back_at (λ k. gate (ltb k n) (f k)) (bias_of d) (bias + x - bias_of d) (bias + x) (omega arith)
      ∙ gate-lt (bias + x - bias_of d) n (f (bias + x - bias_of d)) m

  pub within-past : bias_of d ≤ bias + x → n ≤ bias + x - bias_of d → within n (pos x -ℤ d) f ≡ 0
  within-past l m =
      within-back n x d f b
      ∙ back_at (λ k. gate (ltb k n) (f k)) (bias_of d) (bias + x - bias_of d) (bias + x) (omega arith)
      ∙ gate-ge (bias + x - bias_of d) n (f (bias + x - bias_of d)) m

-- a row moved by a signed number, in biased places
module _ (words : List ℕ) (base w : ℕ) (d : ℤ) (b : SFits w32 d) where
  row-gated : (x : ℕ) → gate (ltb x w) (row_bit words base w x) ≡ row_bit words base w x
  row-gated x =
      ⊎_elim
      (λ (l : x < w). gate-lt x w (row_bit words base w x) l)
      (λ (l : w ≤ x). gate-ge x w (row_bit words base w x) l ∙ sym (row-past words base w x l))
      (order x w)

  pub moved_by : (x : ℕ) → within w (pos x -ℤ d) (row_bit words base w) ≡ back (row_bit words base w) (bias_of d) (bias + x)
  moved_by x = within-back w x d (row_bit words base w) b ∙ (λ i. back (λ k. row-gated k i) (bias_of d) (bias + x))
