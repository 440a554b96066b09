-- Eight bytes joined into a word.
use mathlib.Core.Path.{◌≡◌, refl, sym, ap, ◌∙◌}
use mathlib.Core.Logic.{⊎_elim}
use mathlib.Core.List.{List, [], ◌∷◌}
use Prim.Native.Nat.{ℕ, zero, suc, ◌+◌, ◌*◌, ◌%◌, ◌^◌, ◌≤◌, ◌<◌, max}
use native.Mathlib.Nat.{add-zero}
use native.Mathlib.Omega.{arith}
use lib.Bits.{bit_or, or_lt}
use lib.ListN.{get_or}
use lib.Pow.{pow_mono, shl_lt, shl_exact}
use Rattle.rules.specs.Bitmaps.{bit}
use Rattle.rules.proofs.SumLaws.{order}
use Rattle.words.proofs.BitLaws.{bit-or, bit-above, bit-shl-high, bit-shl-low}
use Rattle.gather.specs.Gathers.{Bytes}

-- a property of each of eight numbers, by place
pub eight : (P : ℕ → ℕ → Type 0) (a b c d e f g h : ℕ)
    → P 0 a → P 1 b → P 2 c → P 3 d → P 4 e → P 5 f → P 6 g → P 7 h
    → (k : ℕ) → k < 8 → P k (get_or (a ∷ b ∷ c ∷ d ∷ e ∷ f ∷ g ∷ h ∷ []) k 0)
eight P a b c d e f g h p0 p1 p2 p3 p4 p5 p6 p7 zero l = p0
eight P a b c d e f g h p0 p1 p2 p3 p4 p5 p6 p7 (suc zero) l = p1
eight P a b c d e f g h p0 p1 p2 p3 p4 p5 p6 p7 (suc (suc zero)) l = p2
eight P a b c d e f g h p0 p1 p2 p3 p4 p5 p6 p7 (suc (suc (suc zero))) l = p3
eight P a b c d e f g h p0 p1 p2 p3 p4 p5 p6 p7 (suc (suc (suc (suc zero)))) l = p4
eight P a b c d e f g h p0 p1 p2 p3 p4 p5 p6 p7 (suc (suc (suc (suc (suc zero))))) l = p5
eight P a b c d e f g h p0 p1 p2 p3 p4 p5 p6 p7 (suc (suc (suc (suc (suc (suc zero)))))) l = p6
eight P a b c d e f g h p0 p1 p2 p3 p4 p5 p6 p7 (suc (suc (suc (suc (suc (suc (suc zero))))))) l = p7
eight P a b c d e f g h p0 p1 p2 p3 p4 p5 p6 p7 (suc (suc (suc (suc (suc (suc (suc (suc k)))))))) l = absurd (omega arith)

-- one byte
bytes_one : (f : ℕ → ℕ) → f 0 < 256 → Bytes 1 f (f 0)
bytes_one f l = record { small = l; bits = λ k m i j. at_zero k m (omega arith) }
  where
    at_zero : (k m : ℕ) → k ≡ 0 → bit (f 0) (8 * k + m) ≡ bit (f k) m
    at_zero k m e = let d : 8 * k + m ≡ m = omega arith in ap (λ (j : ℕ). bit (f 0) j) d ∙ ap (λ (j : ℕ). bit (f j) m) (sym e)

-- one byte more, on top
bytes-more : (f : ℕ → ℕ) (n v : ℕ) → n < 8 → f n < 256 → Bytes n f v → Bytes (n + 1) f (bit_or v (f n * 2 ^ (8 * n) % 2 ^ 64))
bytes-more f n v l small b = record { small = below; bits = λ k m i j. ⊎_elim (old k m j) (new k m i j) (order k n) }
  where
    top : f n * 2 ^ (8 * n) % 2 ^ 64 ≡ f n * 2 ^ (8 * n)
    top = shl_exact {a = f n} 8 (8 * n) 64 small (omega arith)

    below : bit_or v (f n * 2 ^ (8 * n) % 2 ^ 64) < 2 ^ (8 * (n + 1))
    below =
        let e : 8 * (n + 1) ≡ 8 + 8 * n = omega arith in
        rw (top, e)
        (or_lt (8 + 8 * n) v (f n * 2 ^ (8 * n)) (let a = b.small in let c = pow_mono {i = 8 * n} {j = 8 + 8 * n} (omega arith) in omega arith)
        (shl_lt {a = f n} 8 (8 * n) small))

    old : (k m : ℕ) → m < 8 → k < n → bit (bit_or v (f n * 2 ^ (8 * n) % 2 ^ 64)) (8 * k + m) ≡ bit (f k) m
    old k m j i =
        bit-or v (f n * 2 ^ (8 * n) % 2 ^ 64) (8 * k + m)
        ∙ (let a = ap (λ (u : ℕ). bit u (8 * k + m)) top ∙ bit-shl-low (f n) (8 * n) (8 * k + m) (omega arith) in let c = b.bits k m i j in omega arith)

    new : (k m : ℕ) → k < n + 1 → m < 8 → n ≤ k → bit (bit_or v (f n * 2 ^ (8 * n) % 2 ^ 64)) (8 * k + m) ≡ bit (f k) m
    new k m i j o =
        let d : k ≡ n = omega arith in
        let a = ap (λ (u : ℕ). bit u (8 * n + m)) top ∙ bit-shl-high (f n) (8 * n) m in
        let c = bit-above v (8 * n) (8 * n + m) b.small (omega arith) in
        ap (λ (u : ℕ). bit (bit_or v (f n * 2 ^ (8 * n) % 2 ^ 64)) (8 * u + m)) d
        ∙ bit-or v (f n * 2 ^ (8 * n) % 2 ^ 64) (8 * n + m)
        ∙ (let z : max (bit v (8 * n + m)) (bit (f n * 2 ^ (8 * n) % 2 ^ 64) (8 * n + m)) ≡ bit (f n) m = omega arith in z)
        ∙ ap (λ (u : ℕ). bit (f u) m) (sym d)

-- eight bytes joined
abbrev pub up_to : (ℕ → ℕ) → ℕ → ℕ
up_to f zero = f 0
up_to f (suc n) = bit_or (up_to f n) (f (suc n) * 2 ^ (8 * suc n) % 2 ^ 64)

pub joined : (f : ℕ → ℕ) → ((k : ℕ) → k < 8 → f k < 256) → (n : ℕ) → n < 8 → Bytes (n + 1) f (up_to f n)
joined f small zero l = bytes_one f (small 0 (omega arith))
joined f small (suc n) l =
    let e : suc n ≡ n + 1 = omega arith in
    bytes-more f (suc n) (up_to f n) l (small (suc n) l) (rw e (joined f small n (omega arith)))

pub bytes-ext : (n : ℕ) (f g : ℕ → ℕ) (v : ℕ) → ((k : ℕ) → k < n → f k ≡ g k) → Bytes n f v → Bytes n g v
bytes-ext n f g v e b = record { small = b.small; bits = λ k m i j. b.bits k m i j ∙ ap (λ (u : ℕ). bit u m) (e k i) }

-- the eight numbers of a list from a place on
pub eight-from : (l : List ℕ) (at k : ℕ) → k < 8
    → get_or
    (get_or l at 0
    ∷ get_or l (at + 1) 0
    ∷ get_or l (at + 2) 0
    ∷ get_or l (at + 3) 0
    ∷ get_or l (at + 4) 0
    ∷ get_or l (at + 5) 0
    ∷ get_or l (at + 6) 0
    ∷ get_or l (at + 7) 0
    ∷ [])
    k 0
    ≡ get_or l (at + k) 0
eight-from l at =
    eight (λ k v. v ≡ get_or l (at + k) 0) _ _ _ _ _ _ _ _ (ap (λ (j : ℕ). get_or l j 0) (sym (add-zero at))) refl refl refl refl refl refl refl
