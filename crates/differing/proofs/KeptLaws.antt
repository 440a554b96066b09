-- Which pixels of two rows, the second of them moved, are kept.
use mathlib.Core.Path.{◌≡◌, refl, ap₂, ◌∙◌}
use mathlib.Core.Logic.{⊎_elim}
use mathlib.Core.List.{List}
use Prim.Native.Nat.{ℕ, ◌+◌, ◌*◌, ◌-◌, ◌≤◌, ◌<◌, min}
use native.Mathlib.Omega.{arith}
use lib.Dec.{leb}
use lib.ListN.{get_or}
use lib.Bits.{bit_and}
use Rattle.rules.specs.Bitmaps.{bit}
use Rattle.rules.proofs.SumLaws.{order, gate-small}
use Rattle.words.specs.Rows.{WordOf, row_bit, back, bias}
use Rattle.words.specs.Moves.{moved_bit}
use Rattle.words.proofs.BitLaws.{bit-and}
use Rattle.words.proofs.MoveLaws.{row-past, back_at, back-under}
use Rattle.words.proofs.JoinLaws.{WordIn, raw_word}
use Rattle.differing.specs.RowDifferences.{both_kept, row_kept}
use Rattle.popcount.proofs.AdderLaws.{Bit, off, on, number-case}
use Rattle.popcount.proofs.RowLaws.{row_bit-lt}

-- whether both pixels are kept, as a word's bit tells it
abbrev pub kept_bit : List ℕ → List ℕ → ℕ → ℕ → ℕ → ℕ → ℕ → ℕ
kept_bit e1 e2 base from w d x = min (row_bit e1 base w x) (moved_bit e2 from w d x)

pub masked-kept : {e1 e2 : ℕ} → Bit e1 → Bit e2 → min e1 e2 ≡ both_kept e1 e2
unfolding both_kept
masked-kept off off = refl
masked-kept off on = refl
masked-kept on off = refl
masked-kept on on = refl

pub row-case : (words : List ℕ) (base w x : ℕ) → Bit (row_bit words base w x)
row-case words base w x = number-case (row_bit words base w x) (row_bit-lt words base w x)

pub moved-case : (words : List ℕ) (from w d x : ℕ) → Bit (moved_bit words from w d x)
unfolding moved_bit back
moved-case words from w d x =
    number-case (back (row_bit words from w) d (bias + x)) (gate-small (leb d (bias + x)) (row_bit words from w (bias + x - d)) (row_bit-lt words from w (bias + x - d)))

pub kept-is : (e1 e2 : List ℕ) (base from w d x : ℕ) → kept_bit e1 e2 base from w d x ≡ row_kept e1 e2 base from w d x
unfolding row_kept
kept-is e1 e2 base from w d x = masked-kept (row-case e1 base w x) (moved-case e2 from w d x)

module _ (e1 e2 : List ℕ) (base from w d x : ℕ) (e : kept_bit e1 e2 base from w d x ≡ 1) where
  pub kept-first : x < w
  kept-first = ⊎_elim (λ (l : x < w). l) (λ (l : w ≤ x). let z = row-past e1 base w x l in absurd (omega arith)) (order x w)

  pub kept-partner : (d ≤ bias + x) × (bias + x - d < w)
  unfolding moved_bit
  kept-partner = (⊎_elim before reached (order (bias + x) d), ⊎_elim (λ (l : bias + x - d < w). l) past (order (bias + x - d) w))
    where
      before : bias + x < d → d ≤ bias + x
      before l = let z = back-under (row_bit e2 from w) d (bias + x) l in absurd (omega arith)

      reached : d ≤ bias + x → d ≤ bias + x
      reached l = l

      past : w ≤ bias + x - d → bias + x - d < w
      past l =
          let z = row-past e2 from w (bias + x - d) l in
          let y = back_at (row_bit e2 from w) d (bias + x - d) (bias + x) (omega (arith, ⊎_elim before reached (order (bias + x) d))) in
          absurd (omega arith)

module _ (e1 e2 : List ℕ) (base from w d k k1 k2 : ℕ) where
  kept-both : WordIn w (row_bit e1 base w) k k1 → WordIn w (moved_bit e2 from w d) k k2
      → ((i : ℕ) → i < 64 → w ≤ k * 64 + i → min (bit k1 i) (bit k2 i) ≡ 0) → WordOf (kept_bit e1 e2 base from w d) k (bit_and k1 k2)
  kept-both b e p i l = bit-and k1 k2 i ∙ ⊎_elim inside past (order (k * 64 + i) w)
    where
      inside : k * 64 + i < w → min (bit k1 i) (bit k2 i) ≡ kept_bit e1 e2 base from w d (k * 64 + i)
      inside m = ap₂ (λ (s t : ℕ). min s t) (b i l m) (e i l m)

      past : w ≤ k * 64 + i → min (bit k1 i) (bit k2 i) ≡ kept_bit e1 e2 base from w d (k * 64 + i)
      past m = let z = row-past e1 base w (k * 64 + i) m in let y = p i l m in omega arith

  -- the first frame's word has no bits past w
  pub kept_word : WordOf (row_bit e1 base w) k k1 → WordIn w (moved_bit e2 from w d) k k2 → WordOf (kept_bit e1 e2 base from w d) k (bit_and k1 k2)
  kept_word b e = kept-both (λ i l m. b i l) e (λ i l m. let z = b i l ∙ row-past e1 base w (k * 64 + i) m in omega arith)

-- the second frame's word has none either, and comes from the right
pub kept-right : (e1 e2 : List ℕ) (base from w d k k2 : ℕ) → d ≤ bias → WordOf (moved_bit e2 from w d) k k2
    → WordOf (kept_bit e1 e2 base from w d) k (bit_and (get_or e1 (base + k) 0) k2)
unfolding moved_bit
kept-right e1 e2 base from w d k k2 n e =
    kept-both e1 e2 base from w d k (get_or e1 (base + k) 0) k2 (raw_word e1 base w k (base + k) refl) (λ i l m. e i l)
    (λ i l m.
    let x : ℕ = bias + (k * 64 + i) - d in
    let y = e i l ∙ back_at (row_bit e2 from w) d x (bias + (k * 64 + i)) (omega arith) ∙ row-past e2 from w x (omega arith) in
    omega arith)
