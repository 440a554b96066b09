-- Laws of reading: the bytes that pass a test, and the number that digits spell.
use mathlib.Core.Path.{◌≡◌, refl, sym, ap}
use mathlib.Core.Bool.{Bool, true, false, ◌&&◌, cond, false≢true}
use mathlib.Core.List.{List, [], ◌∷◌, ◌++◌}
use Prim.Native.Nat.{ℕ, zero, suc, ◌+◌, ◌*◌, ◌-◌, ◌^◌, ◌≤◌, ◌<◌}
use native.Mathlib.Nat.{pow-suc, pow-le-pow_right}
use native.Mathlib.Numerals.{add-one}
use native.Mathlib.Omega.{arith}
use Rattle.std.proofs.Common.{Option, Some, None}
use Rattle.std.proofs.lemmas.Option.{same_Some}
use lib.Dec.{leb}
use Rattle.std.specs.List.{prefix_len}
use lib.ListN.{length, get_or, take, drop, drop_of_length-le}
use Rattle.std.proofs.lemmas.List.{get_or-take, length-take-le}
use lib.Seq.{take-suc, drop-cons}
use borrow.Author.Tests.{leb-true}
use Rattle.text.specs.Digits.{zero_code, is_digit, leading, decimal, number_of}
use Rattle.text.specs.declared.Number.{Number}

-- The bytes from place n on that pass a test: one more, or none.
pub leading-on : (p : ℕ → Bool) (l : List ℕ) (n : ℕ) → n < length l → p (get_or l n 0) ≡ true → leading p (drop n l) ≡ suc (leading p (drop (n + 1) l))
unfolding leading
leading-on p l n k e = rw (add-one n, drop-cons l n 0 k, e)

pub leading-off : (p : ℕ → Bool) (l : List ℕ) (n : ℕ) → n < length l → p (get_or l n 0) ≡ false → leading p (drop n l) ≡ 0
unfolding leading
leading-off p l n k e = rw (drop-cons l n 0 k, e)

pub leading_end : (p : ℕ → Bool) (l : List ℕ) (n : ℕ) → length l ≤ n → leading p (drop n l) ≡ 0
unfolding leading
leading_end p l n k = rw (drop_of_length-le l k)

-- None leads: the list is empty, or its first byte does not pass.
pub leading-nil : (p : ℕ → Bool) → leading p [] ≡ 0
unfolding leading
leading-nil p = refl

pub leading-none : (p : ℕ → Bool) (b : ℕ) (l : List ℕ) → p b ≡ false → leading p (b ∷ l) ≡ 0
unfolding leading
leading-none p b l e = rw e

-- std's word for the same number
pub leading-prefix : (p : ℕ → Bool) (l : List ℕ) → leading p l ≡ prefix_len p l
unfolding leading
leading-prefix p [] = refl
leading-prefix p (b ∷ l) = split (p b) (leading-prefix p l)
  where
    split : (t : Bool) → leading p l ≡ prefix_len p l → cond t (suc (leading p l)) 0 ≡ cond t (1 + prefix_len p l) 0
    split true e = omega arith
    split false e = refl

-- Text of which every byte passes, and what follows it.
pub leading-all : (p : ℕ → Bool) (a l : List ℕ) → leading p a ≡ length a → leading p (a ++ l) ≡ length a + leading p l
unfolding leading
leading-all p [] l e = omega arith
leading-all p (b ∷ a) l e = split (p b) e (λ k. leading-all p a l k)
  where
    split : (t : Bool) → cond t (suc (leading p a)) 0 ≡ suc (length a)
        → (leading p a ≡ length a → leading p (a ++ l) ≡ length a + leading p l)
        → cond t (suc (leading p (a ++ l))) 0 ≡ suc (length a) + leading p l
    split true e next = let k = next (omega arith) in omega arith
    split false e next = absurd (omega arith)

pub leading-in : (p : ℕ → Bool) (l : List ℕ) → leading p l ≤ length l
unfolding leading
leading-in p [] = omega arith
leading-in p (b ∷ l) = split (p b) (leading-in p l)
  where
    split : (t : Bool) → leading p l ≤ length l → cond t (suc (leading p l)) 0 ≤ suc (length l)
    split true a = omega arith
    split false a = omega arith

pub leading-pass : (p : ℕ → Bool) (l : List ℕ) (i : ℕ) → i < leading p l → p (get_or l i 0) ≡ true
unfolding leading
leading-pass p [] i k = absurd (omega arith)
leading-pass p (b ∷ l) zero k = split (p b) k
  where
    split : (t : Bool) → 0 < cond t (suc (leading p l)) 0 → t ≡ true
    split true k = refl
    split false k = absurd (omega arith)
leading-pass p (b ∷ l) (suc i) k = leading-pass p l i (split (p b) k)
  where
    split : (t : Bool) → suc i < cond t (suc (leading p l)) 0 → i < leading p l
    split true k = omega arith
    split false k = absurd (omega arith)

and-true : (t u : Bool) → t && u ≡ true → (t ≡ true) × (u ≡ true)
and-true true u e = (refl, e)
and-true false u e = absurd (false≢true e)

pub digit-range : (b : ℕ) → is_digit b ≡ true → (48 ≤ b) × (b ≤ 57)
unfolding is_digit
digit-range b e =
    let p = and-true (leb zero_code b) (leb b (zero_code + 9)) e in
    (leb-true zero_code b p.0, leb-true b (zero_code + 9) p.1)

-- One more digit at the end.
pub decimal-append : (v : ℕ) (a : List ℕ) (d : ℕ) → decimal v (a ++ (d ∷ [])) ≡ 10 * decimal v a + (d - zero_code)
unfolding decimal
decimal-append v [] d = refl
decimal-append v (b ∷ a) d = decimal-append (10 * v + (b - zero_code)) a d

pub decimal-next : (l : List ℕ) (n : ℕ) → n < length l → decimal 0 (take (n + 1) l) ≡ 10 * decimal 0 (take n l) + (get_or l n 0 - zero_code)
decimal-next l n k = rw (add-one n, take-suc l n 0 k) (decimal-append 0 (take n l) (get_or l n 0))

-- n digits spell a number of n digits.
pub decimal-bound : (l : List ℕ) (n : ℕ) → n ≤ leading is_digit l → decimal 0 (take n l) < 10 ^ n
unfolding decimal
decimal-bound l zero k = omega arith
decimal-bound l (suc n) k =
    let a = decimal-bound l n (omega arith) in
    let b = decimal-next l n (let i = leading-in is_digit l in omega arith) in
    let d = digit-range (get_or l n 0) (leading-pass is_digit l n (omega arith)) in
    let e = pow-suc 10 n in
    rw (← add-one n, b, add-one n, e) (omega arith)

-- What a turn of the loop over the first n digits meets: the digit, and room for it in 32 bits.
pub record Turn (l : List ℕ) (n i : ℕ) : Type 0 where
  pub low : 48 ≤ get_or (take n l) i 0
  pub high : get_or (take n l) i 0 ≤ 57
  pub small : decimal 0 (take i l) < 100000000
  pub next : decimal 0 (take (i + 1) l) ≡ 10 * decimal 0 (take i l) + (get_or (take n l) i 0 - 48)

pub turn : (l : List ℕ) (n i : ℕ) → n ≤ 9 → n ≤ leading is_digit l → i < length (take n l) → Turn l n i
turn l n i few digits turning =
    let long = leading-in is_digit l in
    let below : i < n = omega (arith, length-take-le n l (omega arith)) in
    let same : get_or (take n l) i 0 ≡ get_or l i 0 = get_or-take n l i 0 below in
    let range = digit-range (get_or l i 0) (leading-pass is_digit l i (omega arith)) in
    let power : 10 ^ i ≤ 10 ^ 8 = pow-le-pow_right {n = 10} (omega arith) {i = i} {j = 8} (omega arith) in
    let bound = decimal-bound l i (omega arith) in
    let next = decimal-next l i (omega arith) in
    record { low = omega arith; high = omega arith; small = omega arith; next = rw same next }

-- What is known of a number that was read.
pub record Spelled (l : List ℕ) (value count : ℕ) : Type 0 where
  pub small : value < 1000000000
  pub least : 1 ≤ count
  pub most : count ≤ 9
  pub within : count ≤ length l
  pub digits : count ≡ leading is_digit l
  pub is : value ≡ decimal 0 (take count l)

pub read_ok : (l : List ℕ) (number : Number) → number_of l ≡ Some number → Spelled l number.value number.count
unfolding number_of
read_ok l number e = split (leb 1 n) (leb n 9) refl refl e
  where
    n : ℕ
    n = leading is_digit l

    split : (t u : Bool) → leb 1 n ≡ t → leb n 9 ≡ u
        → cond {A = Option Number} (t && u) (Some (record { value = decimal 0 (take n l); count = n })) None ≡ Some number
        → Spelled l number.value number.count
    split true true a b e =
        let read = same_Some _ _ e in
        let same : n ≡ number.count = ap (λ (m : Number). m.count) read in
        let spelled : decimal 0 (take n l) ≡ number.value = ap (λ (m : Number). m.value) read in
        let low = leb-true 1 n a in
        let high = leb-true n 9 b in
        let power : 10 ^ n ≤ 10 ^ 9 = pow-le-pow_right {n = 10} (omega arith) {i = n} {j = 9} high in
        let bound = decimal-bound l n (omega arith) in
        record {
          small = omega arith;
          least = omega arith;
          most = omega arith;
          within = let i = leading-in is_digit l in omega arith;
          digits = sym same;
          is = rw (← same) (sym spelled);
        }
    split true false a b e = cc
    split false u a b e = cc
