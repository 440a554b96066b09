-- Words of a moved row, joined from two words of the row, and the words of it that need no mask.
use mathlib.Core.Path.{◌≡◌, sym, ap, ◌∙◌}
use mathlib.Core.Logic.{⊎_elim}
use mathlib.Core.List.{List}
use Prim.Native.Nat.{ℕ, ◌+◌, ◌*◌, ◌-◌, ◌/◌, ◌%◌, ◌^◌, ◌≤◌, ◌<◌, min, max}
use native.Mathlib.Nat.{add-zero, sub-zero, mod-lt, le_trans, lt_of_lt_of_le}
use native.Mathlib.Omega.{arith}
use lib.ListN.{get_or}
use lib.Bits.{bit_or}
use Rattle.rules.specs.Bitmaps.{bit, row_words}
use Rattle.rules.proofs.SumLaws.{order}
use Rattle.words.specs.Rows.{WordOf, row_bit, back, bias, bias_words}
use Rattle.words.specs.Moves.{moved_bit, Joined, MoveOf}
use Rattle.words.proofs.BitLaws.{bit-or, bit-shr, bit-above, bit-shl64-high, bit-shl64-low}
use Rattle.words.proofs.MoveLaws.{row-bit, row-whole, back_at, moved-first}

-- v is word k of the pixels f, as far as the first w of them go
abbrev pub WordIn : ℕ → (ℕ → ℕ) → ℕ → ℕ → Type 0
WordIn w f k v = (i : ℕ) → i < 64 → k * 64 + i < w → bit v i ≡ f (k * 64 + i)

-- v is word k of a moved row, as far as the row's own pixels go
abbrev pub MovedIn : List ℕ → ℕ → ℕ → ℕ → ℕ → ℕ → Type 0
MovedIn words from w d k v = (i : ℕ) → i < 64 → d ≤ bias + (k * 64 + i) → bias + (k * 64 + i) - d < w → bit v i ≡ moved_bit words from w d (k * 64 + i)

-- ---- words of a moved row

-- the bias in words and in pixels
place : (k i : ℕ) → (k + bias_words) * 64 + i ≡ bias + (k * 64 + i)
place k i = omega arith

pub moved-word : (words : List ℕ) (from w d k v : ℕ) → WordOf (back (row_bit words from w) d) (k + bias_words) v → WordOf (moved_bit words from w d) k v
unfolding moved_bit
moved-word words from w d k v a i l = a i l ∙ ap (λ (x : ℕ). back (row_bit words from w) d x) (place k i)

-- a word whose bits from r on are those of one word, and below r the topmost of another
joined-high : (high low r i : ℕ) → low < 2 ^ 64 → r < 64 → r ≤ i → i < 64
    → bit (bit_or (high * 2 ^ r % 2 ^ 64) (low / 2 ^ 1 / 2 ^ (63 - r))) i ≡ bit high (i - r)
joined-high high low r i b l m n =
    let z : bit (low / 2 ^ 1 / 2 ^ (63 - r)) i ≡ 0 =
    bit-shr (low / 2 ^ 1) (63 - r) i ∙ bit-shr low 1 (63 - r + i) ∙ bit-above low 64 (1 + (63 - r + i)) b (omega arith) in
    let g : max (bit (high * 2 ^ r % 2 ^ 64) i) (bit (low / 2 ^ 1 / 2 ^ (63 - r)) i) ≡ bit (high * 2 ^ r % 2 ^ 64) i = omega arith in
    bit-or (high * 2 ^ r % 2 ^ 64) (low / 2 ^ 1 / 2 ^ (63 - r)) i ∙ g ∙ bit-shl64-high high r i m n

joined-low : (high low r i : ℕ) → r < 64 → i < r
    → bit (bit_or (high * 2 ^ r % 2 ^ 64) (low / 2 ^ 1 / 2 ^ (63 - r))) i ≡ bit low (64 - r + i)
joined-low high low r i l m =
    let z : bit (high * 2 ^ r % 2 ^ 64) i ≡ 0 = bit-shl64-low high r i m in
    let s : 1 + (63 - r + i) ≡ 64 - r + i = omega arith in
    let g : max (bit (high * 2 ^ r % 2 ^ 64) i) (bit (low / 2 ^ 1 / 2 ^ (63 - r)) i) ≡ bit (low / 2 ^ 1 / 2 ^ (63 - r)) i = omega arith in
    bit-or (high * 2 ^ r % 2 ^ 64) (low / 2 ^ 1 / 2 ^ (63 - r)) i ∙ g
    ∙ bit-shr (low / 2 ^ 1) (63 - r) i ∙ bit-shr low 1 (63 - r + i) ∙ ap (λ (j : ℕ). bit low j) s

pub joined_is : (high low r : ℕ) → low < 2 ^ 64 → r < 64 → Joined high low r (bit_or (high * 2 ^ r % 2 ^ 64) (low / 2 ^ 1 / 2 ^ (63 - r)))
joined_is high low r b l = record { above = λ i m n. joined-high high low r i b l m n; below = λ i m. joined-low high low r i l m }

-- moved by whole words alone
pub joined-zero : (high low : ℕ) → Joined high low 0 high
joined-zero high low = record { above = λ i l m. ap (bit high) (sym (sub-zero i)); below = λ i l. absurd (omega arith) }

-- two words of f, s = k − q and the one before it, joined: as far as both are right
joined_back : (f : ℕ → ℕ) (b q r k s high low v : ℕ) → r < 64 → 1 ≤ s → q + s ≡ k → WordIn b f s high → WordIn b f (s - 1) low → Joined high low r v
    → (i : ℕ) → i < 64 → k * 64 + i - (q * 64 + r) < b → bit v i ≡ back f (q * 64 + r) (k * 64 + i)
joined_back f b q r k s high low v l n e g h a i m x = ⊎_elim below above (order i r)
  where
    above : r ≤ i → bit v i ≡ back f (q * 64 + r) (k * 64 + i)
    above o = a.above i o m ∙ g (i - r) (omega arith) (omega arith) ∙ sym (back_at f (q * 64 + r) (s * 64 + (i - r)) (k * 64 + i) (omega arith))

    below : i < r → bit v i ≡ back f (q * 64 + r) (k * 64 + i)
    below o =
        a.below i o
        ∙ h (64 - r + i) (omega arith) (omega arith)
        ∙ sym (back_at f (q * 64 + r) ((s - 1) * 64 + (64 - r + i)) (k * 64 + i) (omega arith))

pub joined-whole : (f : ℕ → ℕ) (k q r high low v : ℕ) → q < k → r < 64 → WordOf f (k - q) high → WordOf f (k - q - 1) low → Joined high low r v
    → WordOf (back f (q * 64 + r)) k v
joined-whole f k q r high low v l lr g h a i m =
    joined_back f ((k - q + 1) * 64) q r k (k - q) high low v lr (omega arith) (omega arith) (λ j b c. g j b) (λ j b c. h j b) a i m (omega arith)

-- the same of a row and a move that is counted from the bias
pub joined-moved : (words : List ℕ) (from w b q r k s high low v : ℕ) → r < 64 → 1 ≤ s → q + s ≡ k + bias_words
    → WordIn b (row_bit words from w) s high → WordIn b (row_bit words from w) (s - 1) low → Joined high low r v
    → (i : ℕ) → i < 64 → bias + (k * 64 + i) - (q * 64 + r) < b → bit v i ≡ moved_bit words from w (q * 64 + r) (k * 64 + i)
unfolding moved_bit
joined-moved words from w b q r k s high low v l n e g h a i m x =
    let p = place k i in
    joined_back (row_bit words from w) b q r (k + bias_words) s high low v l n e g h a i m (omega arith)
    ∙ ap (λ (y : ℕ). back (row_bit words from w) (q * 64 + r) y) p

pub raw_word : (words : List ℕ) (from w s j : ℕ) → j ≡ from + s → WordIn w (row_bit words from w) s (get_or words j 0)
raw_word words from w s j e i l m = ap (λ (n : ℕ). bit (get_or words n 0) i) e ∙ sym (row-bit words from w s i m l)

-- words as they stand, with any bits past w
pub raw-moved : (words : List ℕ) (from w q r k s j₁ j₀ v : ℕ) → r < 64 → 1 ≤ s → q + s ≡ k + bias_words → j₁ ≡ from + s → j₀ + 1 ≡ from + s
    → Joined (get_or words j₁ 0) (get_or words j₀ 0) r v → MovedIn words from w (q * 64 + r) k v
raw-moved words from w q r k s j₁ j₀ v l n e f g a i m o x =
    joined-moved words from w w q r k s (get_or words j₁ 0) (get_or words j₀ 0) v l n e (raw_word words from w s j₁ f) (raw_word words from w (s - 1) j₀ (omega arith)) a i m x

-- words with their bits past w as 0
pub whole-moved : (words : List ℕ) (from w q r k s high low v : ℕ) → r < 64 → 1 ≤ s → q + s ≡ k + bias_words
    → WordOf (row_bit words from w) s high → WordOf (row_bit words from w) (s - 1) low → Joined high low r v → WordOf (moved_bit words from w (q * 64 + r)) k v
whole-moved words from w q r k s high low v l n e g h a i m =
    joined-moved words from w ((s + 1) * 64) q r k s high low v l n e (λ j b c. g j b) (λ j b c. h j b) a i m (omega arith)

-- a full row's first word, moved to the right, with no word before it
pub first-moved : (words : List ℕ) (from w q r k : ℕ) → q ≡ k + bias_words → 64 ≤ w
    → WordOf (moved_bit words from w (q * 64 + r)) k (get_or words from 0 * 2 ^ r % 2 ^ 64)
first-moved words from w q r k e l =
    moved-word words from w (q * 64 + r) k (get_or words from 0 * 2 ^ r % 2 ^ 64)
    (moved-first (row_bit words from w) (k + bias_words) q r (get_or words from 0) e
    (λ i m. ap (λ (b : ℕ). bit (get_or words b 0) i) (sym (add-zero from)) ∙ row-whole words from w 0 (omega arith) i m))

-- ---- the interior of a moved row

first-in : (q first end : ℕ) → first ≡ min end (max (q + 1) bias_words - bias_words) → (first ≤ end) × ((k : ℕ) → first ≤ k → k < end → q + 1 ≤ k + bias_words)
first-in q first end e = (omega arith, λ k l m. omega arith)

end-in : (full q end : ℕ) → end ≡ min full (max (q + full) bias_words - bias_words)
    → (end ≤ full) × ((k : ℕ) → k < end → k + bias_words < q + full)
end-in full q end e = (omega arith, λ k m. omega arith)

rest_in : (first rest end : ℕ) → first ≤ end → rest ≡ end - (end - first) % 7 → ((first ≤ rest) × ((rest - first) % 7 ≡ 0)) × (rest ≤ end)
rest_in first rest end l e = ((omega arith, omega arith), omega arith)

pub full-le : (w : ℕ) → w / 64 ≤ row_words w
unfolding row_words
full-le w = omega arith

pub moves : (w n q r first rest end d : ℕ) → w ≤ 4096 → n ≡ row_words w → r ≡ d % 64
    → end ≡ min (w / 64) (max (q + w / 64) bias_words - bias_words) → first ≡ min end (max (q + 1) bias_words - bias_words)
    → rest ≡ end - (end - first) % 7
    → MoveOf w n q r first rest end
moves w n q r first rest end d b e l f g h =
    let s = first-in q first end g in
    let t = end-in (w / 64) q end f in
    let u = t.0 in
    let v = full-le w in
    let o = rest_in first rest end s.0 h in
    record {
      width = b;
      row = e;
      bits = rw l (mod-lt d (omega arith));
      sevens = o.0;
      rests = o.1;
      ends = le_trans u (rw (← e) at v);
      inside = λ k a c. record { here = lt_of_lt_of_le c u; low = s.1 k a c; high = t.1 k c };
    }
