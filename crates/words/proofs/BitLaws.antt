-- The bits of a number under the machine's operations, and a word known by its bits.
-- `a << k` is a * 2 ^ k % 2 ^ 64 and `a >> k` is a / 2 ^ k: the laws are stated in these forms.
use mathlib.Core.Path.{◌≡◌, sym, ap, ap₂, ◌∙◌}
use mathlib.Core.Logic.{⊎_elim}
use Prim.Native.Nat.{ℕ, zero, suc, ◌+◌, ◌*◌, ◌-◌, ◌/◌, ◌%◌, ◌^◌, ◌≤◌, ◌<◌, min, max}
use native.Mathlib.Nat.{mod-lt, mod-eq_of_lt, div-eq_of_lt, pow-suc, add_comm}
use native.Mathlib.Omega.{arith}
use lib.Bits.{bit_and, bit_or, bit_xor, differ, and_step, or_step, xor_step, and_shr, or_shr, xor_shr}
use lib.Arith.{digits_mod}
use lib.Pow.{pow_pos, pow_mono, shr-shr, shl-shr, split, high, low, field, mod-mod-pow, shr_lt}
use Rattle.rules.specs.Sums.{sum}
use Rattle.rules.specs.Bitmaps.{bit, word}
use Rattle.rules.proofs.SumLaws.{order, sum-ext}

pub bit-lt : (v i : ℕ) → bit v i < 2
unfolding bit
bit-lt v i = mod-lt (v / 2 ^ i) (omega arith)

or-odd : (a b : ℕ) → bit_or a b % 2 ≡ max (a % 2) (b % 2)
or-odd a b = ap (λ (n : ℕ). n % 2) (or_step a b) ∙ digits_mod (bit_or (a / 2) (b / 2)) (omega arith)

and-odd : (a b : ℕ) → bit_and a b % 2 ≡ min (a % 2) (b % 2)
and-odd a b = ap (λ (n : ℕ). n % 2) (and_step a b) ∙ digits_mod (bit_and (a / 2) (b / 2)) (omega arith)

differ-lt : (a b : ℕ) → a < 2 → b < 2 → differ a b < 2
differ-lt zero zero k l = omega arith
differ-lt zero (suc zero) k l = omega arith
differ-lt (suc zero) zero k l = omega arith
differ-lt (suc zero) (suc zero) k l = omega arith
differ-lt zero (suc (suc b)) k l = absurd (omega arith)
differ-lt (suc zero) (suc (suc b)) k l = absurd (omega arith)
differ-lt (suc (suc a)) b k l = absurd (omega arith)

xor-odd : (a b : ℕ) → bit_xor a b % 2 ≡ differ (a % 2) (b % 2)
xor-odd a b =
    ap (λ (n : ℕ). n % 2) (xor_step a b)
    ∙ digits_mod (bit_xor (a / 2) (b / 2)) (differ-lt (a % 2) (b % 2) (mod-lt a (omega arith)) (mod-lt b (omega arith)))

pub bit-or : (a b i : ℕ) → bit (bit_or a b) i ≡ max (bit a i) (bit b i)
unfolding bit
bit-or a b i = ap (λ (n : ℕ). n % 2) (or_shr a b i) ∙ or-odd (a / 2 ^ i) (b / 2 ^ i)

pub bit-and : (a b i : ℕ) → bit (bit_and a b) i ≡ min (bit a i) (bit b i)
unfolding bit
bit-and a b i = ap (λ (n : ℕ). n % 2) (and_shr a b i) ∙ and-odd (a / 2 ^ i) (b / 2 ^ i)

pub bit-xor : (a b i : ℕ) → bit (bit_xor a b) i ≡ differ (bit a i) (bit b i)
unfolding bit
bit-xor a b i = ap (λ (n : ℕ). n % 2) (xor_shr a b i) ∙ xor-odd (a / 2 ^ i) (b / 2 ^ i)

pub bit-shr : (v k i : ℕ) → bit (v / 2 ^ k) i ≡ bit v (k + i)
unfolding bit
bit-shr v k i = ap (λ (n : ℕ). n % 2) (shr-shr v k i)

-- a number below 2 ^ k has no bit from k on
pub bit-above : (v k i : ℕ) → v < 2 ^ k → k ≤ i → bit v i ≡ 0
unfolding bit
bit-above v k i l m =
    ap (λ (n : ℕ). n % 2) (div-eq_of_lt (let a = pow_mono m in omega arith))

pub bit-zero : (i : ℕ) → bit 0 i ≡ 0
bit-zero i = bit-above 0 0 i (omega arith) (omega arith)

pub bit-mod-low : (v k i : ℕ) → i < k → bit (v % 2 ^ k) i ≡ bit v i
unfolding bit
bit-mod-low v k i l =
    let d : ℕ = k - (i + 1) in
    let e : d + 1 + i ≡ k = omega arith in
    ap (λ (n : ℕ). v % 2 ^ n / 2 ^ i % 2) (sym e) ∙ ap (λ (n : ℕ). n % 2) (field v (d + 1) i) ∙ mod-mod-pow (v / 2 ^ i) d 1

pub bit-mod-high : (v k i : ℕ) → k ≤ i → bit (v % 2 ^ k) i ≡ 0
bit-mod-high v k i l = bit-above (v % 2 ^ k) k i (mod-lt v (pow_pos k)) l

pub bit-shl-high : (v k i : ℕ) → bit (v * 2 ^ k) (k + i) ≡ bit v i
bit-shl-high v k i = sym (bit-shr (v * 2 ^ k) k i) ∙ ap (λ (n : ℕ). bit n i) (shl-shr v k)

pub bit-shl-low : (v k i : ℕ) → i < k → bit (v * 2 ^ k) i ≡ 0
bit-shl-low v k i l =
    sym (bit-mod-low (v * 2 ^ k) k i l)
    ∙ ap (λ (n : ℕ). bit n i) (ap (λ (n : ℕ). n % 2 ^ k) (sym (native.Mathlib.Nat.add-zero (v * 2 ^ k))) ∙ low v k (pow_pos k))
    ∙ bit-zero i

-- the same within a word: what is moved past bit 63 is lost
pub bit-shl64-high : (v k i : ℕ) → k ≤ i → i < 64 → bit (v * 2 ^ k % 2 ^ 64) i ≡ bit v (i - k)
bit-shl64-high v k i l m =
    let e : k + (i - k) ≡ i = omega arith in
    bit-mod-low (v * 2 ^ k) 64 i m ∙ ap (λ (j : ℕ). bit (v * 2 ^ k) j) (sym e) ∙ bit-shl-high v k (i - k)

pub bit-shl64-low : (v k i : ℕ) → i < k → bit (v * 2 ^ k % 2 ^ 64) i ≡ 0
bit-shl64-low v k i l = ⊎_elim (λ (m : i < 64). bit-mod-low (v * 2 ^ k) 64 i m ∙ bit-shl-low v k i l) (λ (m : 64 ≤ i). bit-mod-high (v * 2 ^ k) 64 i m) (order i 64)

-- a number below 2 ^ n is known by its n bits
pub bit-ext : (n u v : ℕ) → u < 2 ^ n → v < 2 ^ n → ((i : ℕ) → i < n → bit u i ≡ bit v i) → u ≡ v
unfolding bit
bit-ext zero u v k l e = omega arith
bit-ext (suc n) u v k l e =
    let p : u % 2 ^ n ≡ v % 2 ^ n =
    bit-ext n (u % 2 ^ n) (v % 2 ^ n) (mod-lt u (pow_pos n)) (mod-lt v (pow_pos n))
    (λ i m. bit-mod-low u n i m ∙ e i (omega arith) ∙ sym (bit-mod-low v n i m)) in
    let q : u / 2 ^ n ≡ v / 2 ^ n = top u k ∙ e n (omega arith) ∙ sym (top v l) in
    sym (split u n) ∙ ap₂ (λ (a b : ℕ). a * 2 ^ n + b) q p ∙ split v n
  where
    top : (a : ℕ) → a < 2 ^ suc n → a / 2 ^ n ≡ bit a n
    top a m = sym (mod-eq_of_lt (shr_lt {n = a} 1 n (let d : suc n ≡ 1 + n = omega arith in rw d at m)))

-- the number whose bit i is f i, for i below n
number : (n : ℕ) (f : ℕ → ℕ) → ℕ
number n f = sum n (λ i. f i * 2 ^ i)

number_lt : (n : ℕ) (f : ℕ → ℕ) → ((i : ℕ) → i < n → f i < 2) → number n f < 2 ^ n
unfolding number sum
number_lt zero f b = omega arith
number_lt (suc n) f b =
    let a = number_lt n f (λ i l. b i (omega arith)) in
    let c : f n * 2 ^ n ≤ 1 * 2 ^ n = native.Mathlib.Nat.mul-le-mul_right (2 ^ n) (let d = b n (omega arith) in omega arith) in
    let d = pow-suc 2 n in
    omega arith

number_bit : (n : ℕ) (f : ℕ → ℕ) → ((i : ℕ) → i < n → f i < 2) → (i : ℕ) → i < n → bit (number n f) i ≡ f i
unfolding number sum bit
number_bit zero f b i l = absurd (omega arith)
number_bit (suc n) f b i l = ⊎_elim (λ (m : i < n). lower m (number_bit n f (λ j k. b j (omega arith)) i m)) upper (order i n)
  where
    small : number n f < 2 ^ n
    small = number_lt n f (λ j k. b j (omega arith))

    turned : number n f + f n * 2 ^ n ≡ f n * 2 ^ n + number n f
    turned = add_comm (number n f) (f n * 2 ^ n)

    lower : i < n → bit (number n f) i ≡ f i → bit (number n f + f n * 2 ^ n) i ≡ f i
    lower m e =
        ap (λ (v : ℕ). bit v i) turned ∙ sym (bit-mod-low (f n * 2 ^ n + number n f) n i m) ∙ ap (λ (v : ℕ). bit v i) (low (f n) n small) ∙ e

    upper : n ≤ i → bit (number n f + f n * 2 ^ n) i ≡ f i
    upper m =
        let d : i ≡ n = omega arith in
        ap (λ (j : ℕ). (number n f + f n * 2 ^ n) / 2 ^ j % 2) d
        ∙ ap (λ (v : ℕ). v / 2 ^ n % 2) turned
        ∙ ap (λ (v : ℕ). v % 2) (high (f n) n small)
        ∙ mod-eq_of_lt (b n (omega arith))
        ∙ ap f (sym d)

pub word_lt : (f : ℕ → ℕ) → ((i : ℕ) → i < 64 → f i < 2) → word f < 2 ^ 64
unfolding word number
word_lt f b = number_lt 64 f b

pub word-bit : (f : ℕ → ℕ) → ((i : ℕ) → i < 64 → f i < 2) → (i : ℕ) → i < 64 → bit (word f) i ≡ f i
unfolding word number
word-bit f b i l = number_bit 64 f b i l

pub word-ext : (f g : ℕ → ℕ) → ((i : ℕ) → i < 64 → f i ≡ g i) → word f ≡ word g
unfolding word
word-ext f g e = sum-ext 64 (λ i. f i * 2 ^ i) (λ i. g i * 2 ^ i) (λ i l. ap (λ (b : ℕ). b * 2 ^ i) (e i l))

-- a word is known by its bits
pub word-is : (v : ℕ) (f : ℕ → ℕ) → v < 2 ^ 64 → ((i : ℕ) → i < 64 → bit v i ≡ f i) → v ≡ word f
word-is v f l e =
    let b : (i : ℕ) → i < 64 → f i < 2 = λ i m. rw (← e i m) (bit-lt v i) in
    bit-ext 64 v (word f) l (word_lt f b) (λ i m. e i m ∙ sym (word-bit f b i m))
