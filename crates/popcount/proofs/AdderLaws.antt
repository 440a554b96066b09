-- The 1 bits of words laid together by full adders.
use mathlib.Core.Path.{◌≡◌, refl, sym, ap, ap₂, ◌∙◌}
use Prim.Native.Nat.{ℕ, zero, suc, ◌+◌, ◌*◌, ◌<◌, min, max}
use native.Mathlib.Omega.{arith}
use lib.Bits.{bit_and, bit_or, bit_xor, differ}
use Rattle.rules.specs.Sums.{sum}
use Rattle.rules.specs.Bitmaps.{bit}
use Rattle.rules.proofs.SumLaws.{sum-ext, sum-zero, sum-add}
use Rattle.words.proofs.BitLaws.{bit-lt, bit-and, bit-or, bit-xor, bit-zero}

-- the case split on a bit
pub data Bit : ℕ → Type 0 where
  off : Bit 0
  on : Bit 1

pub number-case : (n : ℕ) → n < 2 → Bit n
number-case zero l = off
number-case (suc zero) l = on
number-case (suc (suc n)) l = absurd (omega arith)

pub bit-case : (v i : ℕ) → Bit (bit v i)
bit-case v i = number-case (bit v i) (bit-lt v i)

-- ---- a full adder

digits : {a b c : ℕ} → Bit a → Bit b → Bit c → a + b + c ≡ differ (differ a b) c + (max (min a b) (min (differ a b) c) + max (min a b) (min (differ a b) c))
digits off off off = refl
digits off off on = refl
digits off on off = refl
digits off on on = refl
digits on off off = refl
digits on off on = refl
digits on on off = refl
digits on on on = refl

abbrev low : ℕ → ℕ → ℕ → ℕ
low a b c = bit_xor (bit_xor a b) c

abbrev carry : ℕ → ℕ → ℕ → ℕ
carry a b c = bit_or (bit_and a b) (bit_and (bit_xor a b) c)

low_bit : (a b c i : ℕ) → bit (low a b c) i ≡ differ (differ (bit a i) (bit b i)) (bit c i)
low_bit a b c i = bit-xor (bit_xor a b) c i ∙ ap (λ (n : ℕ). differ n (bit c i)) (bit-xor a b i)

carry-bit : (a b c i : ℕ) → bit (carry a b c) i ≡ max (min (bit a i) (bit b i)) (min (differ (bit a i) (bit b i)) (bit c i))
carry-bit a b c i =
    bit-or (bit_and a b) (bit_and (bit_xor a b) c) i
    ∙ ap₂ (λ (m n : ℕ). max m n) (bit-and a b i) (bit-and (bit_xor a b) c i ∙ ap (λ (n : ℕ). min n (bit c i)) (bit-xor a b i))

place : (a b c i : ℕ) → bit a i + bit b i + bit c i ≡ bit (low a b c) i + (bit (carry a b c) i + bit (carry a b c) i)
place a b c i =
    digits (bit-case a i) (bit-case b i) (bit-case c i)
    ∙ (λ j. sym (low_bit a b c i) j + (sym (carry-bit a b c i) j + sym (carry-bit a b c i) j))

pub adder-sums : (a b c : ℕ) → sum 64 (bit a) + sum 64 (bit b) + sum 64 (bit c) ≡ sum 64 (bit (low a b c)) + 2 * sum 64 (bit (carry a b c))
adder-sums a b c =
    let p = sum-add 64 (bit a) (bit b) in
    let q = sum-add 64 (λ i. bit a i + bit b i) (bit c) in
    let e = sum-ext 64 (λ i. bit a i + bit b i + bit c i) (λ i. bit (low a b c) i + (bit (carry a b c) i + bit (carry a b c) i)) (λ i l. place a b c i) in
    let r = sum-add 64 (bit (low a b c)) (λ i. bit (carry a b c) i + bit (carry a b c) i) in
    let s = sum-add 64 (bit (carry a b c)) (bit (carry a b c)) in
    omega arith

-- ---- words of which none has a 1

or-none : (a b : ℕ) → ((i : ℕ) → bit (bit_or a b) i ≡ 0) → ((i : ℕ) → bit a i ≡ 0) × ((i : ℕ) → bit b i ≡ 0)
or-none a b z = (λ i. omega (arith, bit-or a b i, z i), λ i. omega (arith, bit-or a b i, z i))

pub none_left : (a b c : ℕ) → bit_or (bit_or a b) c ≡ 0 → (sum 64 (bit a) ≡ 0) × ((sum 64 (bit b) ≡ 0) × (sum 64 (bit c) ≡ 0))
none_left a b c e =
    let p = or-none (bit_or a b) c (λ i. ap (λ (v : ℕ). bit v i) e ∙ bit-zero i) in
    let q = or-none a b p.0 in
    (sum-zero 64 (bit a) (λ i l. q.0 i), (sum-zero 64 (bit b) (λ i l. q.1 i), sum-zero 64 (bit c) (λ i l. p.1 i)))
