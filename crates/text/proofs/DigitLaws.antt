-- Laws of the digits of a number.
use mathlib.Core.Path.{◌≡◌, refl, sym, ap, ◌∙◌}
use mathlib.Core.Bool.{Bool, true, false, cond}
use mathlib.Core.List.{List, [], ◌∷◌, ◌++◌}
use Prim.Native.Nat.{ℕ, zero, suc, ◌+◌, ◌/◌, ◌%◌, ◌^◌, ◌≤◌, ◌<◌}
use native.Mathlib.Nat.{pow-suc, div-lt_iff_lt-mul, mod-lt, div-add-mod}
use native.Mathlib.Omega.{arith}
use Rattle.std.proofs.Common.{Some}
use lib.Dec.{ltb}
use lib.ListN.{length, length-append}
use lib.Seq.{take-append_seam}
use borrow.Author.Tests.{le-leb, lt-ltb, le-ltb, ltb-true}
use Rattle.text.specs.Digits.{zero_code, is_digit, leading, decimal, number_of, last_digits, digits}
use Rattle.text.proofs.ReadLaws.{leading-all, decimal-append}

tenth : (n k : ℕ) → n < 10 ^ suc k → n / 10 < 10 ^ k
tenth n k l = let e = pow-suc 10 k in (div-lt_iff_lt-mul {k = 10} {x = n} {y = 10 ^ k} (omega arith)).1 (omega arith)

-- enough digits are as good as more
last-enough : (k n : ℕ) → n < 10 ^ suc k → last_digits (suc (suc k)) n ≡ last_digits (suc k) n
unfolding last_digits
last-enough zero n l = rw (lt-ltb n 10 (omega arith))
last-enough (suc k) n l = rw (last-enough k (n / 10) (tenth n (suc k) l))

pub digits-one : (n : ℕ) → n < 10 → digits n ≡ (zero_code + n) ∷ []
unfolding digits last_digits
digits-one n l = rw (lt-ltb n 10 l)

last_more : (k n : ℕ) → 10 ≤ n → last_digits (suc k) n ≡ last_digits k (n / 10) ++ ((zero_code + n % 10) ∷ [])
unfolding last_digits
last_more k n l = rw (le-ltb n 10 l)

pub digits_more : (n : ℕ) → 10 ≤ n → n < 10 ^ 10 → digits n ≡ digits (n / 10) ++ ((zero_code + n % 10) ∷ [])
unfolding digits
digits_more n l m = last_more 9 n l ∙ rw (last-enough 8 (n / 10) (tenth n 9 m))

pub length_more : (n : ℕ) → 10 ≤ n → n < 10 ^ 10 → length (digits n) ≡ length (digits (n / 10)) + 1
length_more n l m = rw (digits_more n l m) (length-append (digits (n / 10)) ((zero_code + n % 10) ∷ []))

length_last : (k n : ℕ) → length (last_digits k n) ≤ k
unfolding last_digits
length_last zero n = omega arith
length_last (suc k) n = split (ltb n 10) (length_last k (n / 10))
  where
    split : (t : Bool) → length (last_digits k (n / 10)) ≤ k
        → length (cond t ((zero_code + n) ∷ []) (last_digits k (n / 10) ++ ((zero_code + n % 10) ∷ []))) ≤ suc k
    split true a = omega arith
    split false a = rw (length-append (last_digits k (n / 10)) ((zero_code + n % 10) ∷ [])) (omega arith)

pub digits-at-most-ten : (n : ℕ) → length (digits n) ≤ 10
unfolding digits
digits-at-most-ten n = length_last 10 n

pub digits-none-empty : (n : ℕ) → 1 ≤ length (digits n)
unfolding digits last_digits
digits-none-empty n = split (ltb n 10)
  where
    split : (t : Bool) → 1 ≤ length (cond t ((zero_code + n) ∷ []) (last_digits 9 (n / 10) ++ ((zero_code + n % 10) ∷ [])))
    split true = omega arith
    split false = rw (length-append (last_digits 9 (n / 10)) ((zero_code + n % 10) ∷ [])) (omega arith)

last-few : (j k n : ℕ) → n < 10 ^ suc k → length (last_digits j n) ≤ suc k
unfolding last_digits
last-few zero k n l = omega arith
last-few (suc j) zero n l = rw (lt-ltb n 10 (omega arith)) (omega arith)
last-few (suc j) (suc k) n l = split (ltb n 10) (last-few j k (n / 10) (tenth n (suc k) l))
  where
    split : (t : Bool) → length (last_digits j (n / 10)) ≤ suc k
        → length (cond t ((zero_code + n) ∷ []) (last_digits j (n / 10) ++ ((zero_code + n % 10) ∷ []))) ≤ suc (suc k)
    split true a = omega arith
    split false a = rw (length-append (last_digits j (n / 10)) ((zero_code + n % 10) ∷ [])) (omega arith)

-- a number below 10^k has k digits at most
pub digits-few : (k n : ℕ) → 1 ≤ k → n < 10 ^ k → length (digits n) ≤ k
unfolding digits
digits-few zero n i l = absurd (omega arith)
digits-few (suc k) n i l = last-few 10 k n l

code-digit : (d : ℕ) → d < 10 → is_digit (zero_code + d) ≡ true
unfolding is_digit
code-digit d l = rw (le-leb zero_code (zero_code + d) (omega arith), le-leb (zero_code + d) (zero_code + 9) (omega arith))

-- the digits read again
last-pass : (k n : ℕ) → leading is_digit (last_digits k n) ≡ length (last_digits k n)
unfolding last_digits leading
last-pass zero n = refl
last-pass (suc k) n = split (ltb n 10) refl (last-pass k (n / 10))
  where
    one : (d : ℕ) → d < 10 → leading is_digit ((zero_code + d) ∷ []) ≡ 1
    one d l = rw (code-digit d l)

    split : (t : Bool) → ltb n 10 ≡ t → leading is_digit (last_digits k (n / 10)) ≡ length (last_digits k (n / 10))
        → let l = cond t ((zero_code + n) ∷ []) (last_digits k (n / 10) ++ ((zero_code + n % 10) ∷ [])) in leading is_digit l ≡ length l
    split true t a = one n (ltb-true n 10 t)
    split false t a =
        leading-all is_digit (last_digits k (n / 10)) ((zero_code + n % 10) ∷ []) a
        ∙ ap (λ (m : ℕ). length (last_digits k (n / 10)) + m) (one (n % 10) (mod-lt n {m = 10} (omega arith)))
        ∙ sym (length-append (last_digits k (n / 10)) ((zero_code + n % 10) ∷ []))

pub digits-pass : (n : ℕ) → leading is_digit (digits n) ≡ length (digits n)
unfolding digits
digits-pass n = last-pass 10 n

last-value : (k n : ℕ) → n < 10 ^ suc k → decimal 0 (last_digits (suc k) n) ≡ n
unfolding last_digits decimal
last-value zero n l = rw (lt-ltb n 10 (omega arith)) (omega arith)
last-value (suc k) n l = split (ltb n 10) (last-value k (n / 10) (tenth n (suc k) l))
  where
    split : (t : Bool) → decimal 0 (last_digits (suc k) (n / 10)) ≡ n / 10
        → decimal 0 (cond t ((zero_code + n) ∷ []) (last_digits (suc k) (n / 10) ++ ((zero_code + n % 10) ∷ []))) ≡ n
    split true a = omega arith
    split false a = decimal-append 0 (last_digits (suc k) (n / 10)) (zero_code + n % 10) ∙ rw a (omega (arith, div-add-mod n 10))

-- A number of nine digits at most, followed by no digit, is read as it was written.
pub read-digits : (n : ℕ) (l : List ℕ) → n < 1000000000 → leading is_digit l ≡ 0 → number_of (digits n ++ l) ≡ Some (record { value = n; count = length (digits n) })
unfolding number_of digits
read-digits n l m e = rw (led, le-leb 1 _ (digits-none-empty n), le-leb _ 9 (digits-few 9 n (omega arith) m), take-append_seam, last-value 9 n (omega arith))
  where
    led : leading is_digit (last_digits 10 n ++ l) ≡ length (last_digits 10 n)
    led = leading-all is_digit (last_digits 10 n) l (last-pass 10 n) ∙ (omega (arith, e))
