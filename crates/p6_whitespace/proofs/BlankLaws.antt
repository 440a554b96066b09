-- Laws of blanks, bytes of whitespace and comments, and of the whitespace that they make one after the other.
use mathlib.Core.Path.{◌≡◌, refl, sym, ap, ◌∙◌}
use mathlib.Core.Bool.{Bool, true, false, cond, true≢false}
use mathlib.Core.Logic.{⊎_elim}
use mathlib.Core.List.{List, [], ◌∷◌}
use Prim.Native.Nat.{ℕ, zero, suc, ◌+◌, ◌-◌, ◌≤◌, ◌<◌}
use native.Mathlib.Omega.{arith}
use Rattle.std.specs.List.{position_or_len, position, slice_get}
use Rattle.std.proofs.Common.{Option, Some, None}
use Rattle.std.proofs.lemmas.Option.{same_Some}
use lib.Dec.{eqb, ltb, leb}
use lib.ListN.{length, get_or, take, drop, length-drop, get_or-eq_default}
use lib.Seq.{take_all}
use borrow.Author.Tests.{le-leb, leb-true, lt-ltb, le-ltb, ltb-true}
use Rattle.rules.proofs.SumLaws.{order}
use Rattle.text.specs.Digits.{leading}
use Rattle.text.proofs.ReadLaws.{leading-prefix}
use Rattle.p6_whitespace.specs.Whitespace.{is_white, hash, ends_line, in_line}
use Rattle.p6_whitespace.specs.Blanks.{comment_length, blank_length, blanks_length, whitespace_length}

-- the part of a list from a place on, as a slice of the rest's length
pub rest-whole : (l : List ℕ) (n : ℕ) → take (length l - n) (drop n l) ≡ drop n l
rest-whole l n = take_all (length l - n) (drop n l) (let a = length-drop n l in omega arith)

-- there is no whitespace past the end
pub white-past : (l : List ℕ) (n : ℕ) → length l ≤ n → is_white (get_or l n 0) ≡ false
unfolding is_white
white-past l n k = rw (get_or-eq_default l 0 k)

-- so a place with whitespace is in the bytes
pub white-within : (l : List ℕ) (n : ℕ) → is_white (get_or l n 0) ≡ true → n < length l
white-within l n e = ⊎_elim (λ (k : n < length l). k) (λ (k : length l ≤ n). absurd (true≢false (sym e ∙ white-past l n k))) (order n (length l))

-- A comment whose end is found, and one that is cut off.
pub comment-ended : (l : List ℕ) (n : ℕ) → leading in_line l ≡ n → n < length l → comment_length l ≡ n + 1
unfolding comment_length
comment-ended l n e k = rw (e, lt-ltb n (length l) k)

pub comment-cut : (l : List ℕ) → leading in_line l ≡ length l → comment_length l ≡ 0
unfolding comment_length
comment-cut l e = rw (e, le-ltb (length l) (length l) (omega arith))

-- the same by the place of the first byte that ends a line
pub comment_ends : (l : List ℕ) (n : ℕ) → Some n ≡ position ends_line l → n + 1 ≡ comment_length l
unfolding comment_length
comment_ends l n e = rw (leading-prefix in_line l) (split (ltb m (length l)) e)
  where
    m : ℕ
    m = position_or_len ends_line l

    split : (t : Bool) → Some n ≡ cond t (Some m) None → n + 1 ≡ cond t (m + 1) 0
    split true e = ap (λ (k : ℕ). k + 1) (same_Some _ _ e)
    split false e = cc

pub comment_stays : (l : List ℕ) → None ≡ position ends_line l → 0 ≡ comment_length l
unfolding comment_length
comment_stays l e = rw (leading-prefix in_line l) (split (ltb m (length l)) e)
  where
    m : ℕ
    m = position_or_len ends_line l

    split : (t : Bool) → ◌≡◌ {A = Option ℕ} None (cond t (Some m) None) → 0 ≡ cond t (m + 1) 0
    split true e = cc
    split false e = refl

comment-in : (l : List ℕ) → comment_length l ≤ length l
unfolding comment_length
comment-in l = split (ltb (leading in_line l) (length l)) refl
  where
    split : (t : Bool) → ltb (leading in_line l) (length l) ≡ t → cond t (leading in_line l + 1) 0 ≤ length l
    split true e = let k = ltb-true (leading in_line l) (length l) e in omega arith
    split false e = omega arith

-- Bytes begin with no blank where there are none.
pub blank-past : (l : List ℕ) → length l ≡ 0 → blank_length l ≡ 0
unfolding blank_length
blank-past l e = rw (white-past l 0 (omega arith), get_or-eq_default l 0 {n = 0} (omega arith))

pub blank-none : (l : List ℕ) → None ≡ slice_get l 0 → 0 ≡ blank_length l
blank-none [] e = sym (blank-past [] refl)
blank-none (b ∷ l) e = cc

pub blank-in : (l : List ℕ) → blank_length l ≤ length l
unfolding blank_length
blank-in l = split (is_white (get_or l 0 0)) (eqb (get_or l 0 0) hash) refl
  where
    split : (t u : Bool) → is_white (get_or l 0 0) ≡ t → cond t 1 (cond u (comment_length l) 0) ≤ length l
    split true u e = omega (arith, white-within l 0 e)
    split false true e = comment-in l
    split false false e = omega arith

-- As many blanks as there are bytes are all that there can be.
enough : (j k : ℕ) (l : List ℕ) → length l ≤ j → length l ≤ k → blanks_length j l ≡ blanks_length k l
unfolding blanks_length
enough zero zero l a b = refl
enough zero (suc k) l a b = rw (blank-past l (omega arith))
enough (suc j) zero l a b = rw (blank-past l (omega arith))
enough (suc j) (suc k) l a b = split (leb 1 n) refl (λ m. let d = length-drop n l in enough j k (drop n l) (omega arith) (omega arith))
  where
    n : ℕ
    n = blank_length l

    split : (t : Bool) → leb 1 n ≡ t → (1 ≤ n → blanks_length j (drop n l) ≡ blanks_length k (drop n l))
        → cond t (n + blanks_length j (drop n l)) 0 ≡ cond t (n + blanks_length k (drop n l)) 0
    split true e same = rw (same (leb-true 1 n e))
    split false e same = refl

-- The whitespace at the beginning of bytes: a blank and what follows it, or none.
pub whitespace-on : (l : List ℕ) (n : ℕ) → blank_length l ≡ n → 1 ≤ n → whitespace_length l ≡ n + whitespace_length (drop n l)
unfolding whitespace_length blanks_length
whitespace-on l n e k = more (length l) refl
  where
    more : (m : ℕ) → length l ≡ m → blanks_length m l ≡ n + blanks_length (length (drop n l)) (drop n l)
    more zero z = absurd (let b = blank-in l in omega arith)
    more (suc m) z = let d = length-drop n l in rw (e, le-leb 1 n k, enough m (length (drop n l)) (drop n l) (omega arith) (omega arith))

pub whitespace-off : (l : List ℕ) → blank_length l ≡ 0 → whitespace_length l ≡ 0
unfolding whitespace_length blanks_length
whitespace-off l e = none (length l)
  where
    none : (m : ℕ) → blanks_length m l ≡ 0
    none zero = refl
    none (suc m) = rw e

-- the blank that is looked for in the rest, as a slice of its length
pub record BlankAt (l : List ℕ) (n blank : ℕ) : Type 0 where
  pub is : blank_length (drop n l) ≡ blank
  pub within : n + blank ≤ length l

pub blank_at : (l : List ℕ) (n blank : ℕ) → n ≤ length l → blank ≡ blank_length (take (length l - n) (drop n l)) → BlankAt l n blank
blank_at l n blank k e =
    let is : blank_length (drop n l) ≡ blank = ap blank_length (sym (rest-whole l n)) ∙ sym e in
    record { is = is; within = omega (arith, blank-in (drop n l), length-drop n l) }

blanks-in : (k : ℕ) (l : List ℕ) → blanks_length k l ≤ length l
unfolding blanks_length
blanks-in zero l = omega arith
blanks-in (suc k) l = split (leb 1 n) (blanks-in k (drop n l))
  where
    n : ℕ
    n = blank_length l

    split : (t : Bool) → blanks_length k (drop n l) ≤ length (drop n l) → cond t (n + blanks_length k (drop n l)) 0 ≤ length l
    split true a = omega (arith, length-drop n l, blank-in l)
    split false a = omega arith

pub whitespace-in : (l : List ℕ) → whitespace_length l ≤ length l
unfolding whitespace_length
whitespace-in l = blanks-in (length l) l

-- Where no comment follows them, the leading bytes of whitespace are all of it.
pub whitespace-plain : (l : List ℕ) → eqb (get_or l (leading is_white l) 0) hash ≡ false → whitespace_length l ≡ leading is_white l
unfolding leading blank_length
whitespace-plain [] e = whitespace-off [] (blank-past [] refl)
whitespace-plain (b ∷ l) e = split (is_white b) refl e (λ f. whitespace-plain l f)
  where
    split : (t : Bool) → is_white b ≡ t → eqb (get_or (b ∷ l) (cond t (suc (leading is_white l)) 0) 0) hash ≡ false
        → (eqb (get_or l (leading is_white l) 0) hash ≡ false → whitespace_length l ≡ leading is_white l)
        → whitespace_length (b ∷ l) ≡ cond t (suc (leading is_white l)) 0
    split true w e next = omega (arith, whitespace-on (b ∷ l) 1 (rw w) (omega arith), next e)
    split false w e next = whitespace-off (b ∷ l) (rw (w, e))
