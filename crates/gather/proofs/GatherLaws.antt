-- 64 flags, held as weights, gathered into a word.
use mathlib.Core.Path.{◌≡◌, sym, ap, ap₂, ◌∙◌}
use mathlib.Core.List.{List}
use Prim.Native.Nat.{ℕ, zero, suc, ◌+◌, ◌*◌, ◌-◌, ◌/◌, ◌%◌, ◌^◌, ◌<◌, max}
use native.Mathlib.Nat.{zero-max, max-zero}
use native.Mathlib.Omega.{arith}
use lib.Bits.{bit_or, or_lt}
use lib.Dec.{ltb, eqb}
use lib.ListN.{get_or}
use borrow.Author.Tests.{lt-ltb, le-ltb, eq-eqb, ne_eqb}
use Rattle.rules.specs.Sums.{gate}
use Rattle.rules.specs.Bitmaps.{bit, word}
use Rattle.words.proofs.BitLaws.{bit-or, bit-above, bit-shl-high, bit-shl-low, word-bit, word-ext, word-is}
use Rattle.gather.specs.Gathers.{Bytes, by_columns}
use Rattle.flags.specs.Flags.{Weighed}
use Rattle.rules.proofs.CaseLaws.{compared}

-- a flag is its own lowest bit
bit-flag : (v : ℕ) → v < 2 → bit v 0 ≡ v
unfolding bit
bit-flag v l = omega arith

-- of a flag held as the weight of bit k, only that bit can be 1
weight-bit : (v k m : ℕ) → v < 2 → bit (v * 2 ^ k) m ≡ gate (eqb m k) v
weight-bit v k m l = compared m k below same above
  where
    none : (m ≡ k → ⊥) → 0 ≡ gate (eqb m k) v
    none d = sym (ap (λ c. gate c v) (ne_eqb m k d))

    below : m < k → bit (v * 2 ^ k) m ≡ gate (eqb m k) v
    below p = bit-shl-low v k m p ∙ none (λ e. omega arith)

    same : m ≡ k → bit (v * 2 ^ k) m ≡ gate (eqb m k) v
    same d =
        let e : m ≡ k + 0 = omega arith in
        ap (λ (i : ℕ). bit (v * 2 ^ k) i) e ∙ bit-shl-high v k 0 ∙ bit-flag v l ∙ sym (ap (λ c. gate c v) (eq-eqb m k d))

    above : k < m → bit (v * 2 ^ k) m ≡ gate (eqb m k) v
    above p =
        let e : m ≡ k + (m - k) = omega arith in
        ap (λ (i : ℕ). bit (v * 2 ^ k) i) e ∙ bit-shl-high v k (m - k) ∙ bit-above v 1 (m - k) l (omega arith) ∙ none (λ d. omega arith)

-- one number more of those that a test lets through
grow : (f : ℕ → ℕ) (m n : ℕ) → max (gate (ltb m n) (f m)) (gate (eqb m n) (f n)) ≡ gate (ltb m (suc n)) (f m)
grow f m n = compared m n below same above
  where
    below : m < n → max (gate (ltb m n) (f m)) (gate (eqb m n) (f n)) ≡ gate (ltb m (suc n)) (f m)
    below p = simp (lt-ltb m n p, ne_eqb m n (λ e. omega arith), lt-ltb m (suc n) (omega arith), max-zero)

    above : n < m → max (gate (ltb m n) (f m)) (gate (eqb m n) (f n)) ≡ gate (ltb m (suc n)) (f m)
    above p = simp (le-ltb m n (omega arith), ne_eqb m n (λ e. omega arith), le-ltb m (suc n) p)

    same : m ≡ n → max (gate (ltb m n) (f m)) (gate (eqb m n) (f n)) ≡ gate (ltb m (suc n)) (f m)
    same d = simp (le-ltb m n (omega arith), eq-eqb m n d, lt-ltb m (suc n) (omega arith), zero-max) (ap f (sym d))

-- the words x 0, x 1, … of eight flags each, laid over each other: bit m of byte j is flag j of x m
abbrev pub laid : (ℕ → ℕ) → ℕ → ℕ
laid x zero = x 0
laid x (suc n) = bit_or (laid x n) (x (suc n))

module _ (f : ℕ → ℕ) (flags : List ℕ) (x : ℕ → ℕ) (words : (k : ℕ) → k < 8 → Bytes 8 (λ j. get_or flags (8 * k + j) 0) (x k)) (w : Weighed f flags) where
  column : (n j m : ℕ) → n < 8 → j < 8 → m < 8 → bit (x n) (8 * j + m) ≡ gate (eqb m n) (f (8 * n + j))
  column n j m l k o =
      let e : (8 * n + j) / 8 ≡ n = omega arith in
      let p : 8 * n + j < 64 = omega arith in
      (words n l).bits j m k o
      ∙ ap (λ (v : ℕ). bit v m) (w.held (8 * n + j) p ∙ ap (λ (c : ℕ). f (8 * n + j) * 2 ^ c) e)
      ∙ weight-bit (f (8 * n + j)) n m (w.flag (8 * n + j) p)

  laid-bit : (n : ℕ) → n < 8 → (j m : ℕ) → j < 8 → m < 8 → bit (laid x n) (8 * j + m) ≡ gate (ltb m (suc n)) (f (8 * m + j))
  laid-bit zero l j m k o =
      let g : ℕ → ℕ = λ i. f (8 * i + j) in
      column 0 j m l k o
      ∙ sym (zero-max (gate (eqb m 0) (g 0)))
      ∙ ap (λ t. max (gate t (g m)) (gate (eqb m 0) (g 0))) (sym (le-ltb m 0 (omega arith)))
      ∙ grow g m 0
  laid-bit (suc n) l j m k o =
      bit-or (laid x n) (x (suc n)) (8 * j + m)
      ∙ ap₂ max (laid-bit n (omega arith) j m k o) (column (suc n) j m l k o)
      ∙ grow (λ i. f (8 * i + j)) m (suc n)

  laid-lt : (n : ℕ) → n < 8 → laid x n < 2 ^ 64
  laid-lt zero l = (words 0 l).small
  laid-lt (suc n) l = or_lt 64 (laid x n) (x (suc n)) (laid-lt n (omega arith)) (words (suc n) l).small

  -- eight words of eight flags are the flags by columns
  pub gathered : laid x 7 ≡ by_columns f
  unfolding by_columns
  gathered = word-is (laid x 7) (λ i. f (8 * (i % 8) + i / 8)) (laid-lt 7 (omega arith)) bits
    where
      bits : (i : ℕ) → i < 64 → bit (laid x 7) i ≡ f (8 * (i % 8) + i / 8)
      bits i k =
          let e : i ≡ 8 * (i / 8) + i % 8 = omega arith in
          ap (λ (p : ℕ). bit (laid x 7) p) e
          ∙ laid-bit 7 (omega arith) (i / 8) (i % 8) (omega arith) (omega arith)
          ∙ ap (λ c. gate c (f (8 * (i % 8) + i / 8))) (lt-ltb (i % 8) 8 (omega arith))

-- columns turned are rows
pub columns-turned : (f : ℕ → ℕ) → ((i : ℕ) → i < 64 → f i < 2) → by_columns (bit (by_columns f)) ≡ word f
unfolding by_columns
columns-turned f flag = word-ext (λ i. bit (by_columns f) (8 * (i % 8) + i / 8)) f same
  where
    same : (i : ℕ) → i < 64 → bit (word (λ k. f (8 * (k % 8) + k / 8))) (8 * (i % 8) + i / 8) ≡ f i
    same i l =
        let p : ℕ = 8 * (i % 8) + i / 8 in
        let e : 8 * (p % 8) + p / 8 ≡ i = omega arith in
        word-bit (λ k. f (8 * (k % 8) + k / 8)) (λ k m. flag (8 * (k % 8) + k / 8) (omega arith)) p (omega arith) ∙ ap f e
