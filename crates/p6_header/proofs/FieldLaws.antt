-- Laws of a header's fields: whitespace, then a number.
use mathlib.Core.Path.{◌≡◌, refl, sym, ap, ◌∙◌}
use mathlib.Core.Bool.{Bool, true, false, cond}
use mathlib.Core.List.{List}
use Prim.Native.Nat.{ℕ, ◌+◌, ◌-◌, ◌≤◌}
use native.Mathlib.Omega.{arith}
use lib.Dec.{leb}
use Rattle.std.proofs.Common.{Option, Some, None}
use Rattle.std.proofs.lemmas.Option.{same_Some}
use lib.ListN.{length, take, drop, length-drop}
use borrow.Author.Tests.{le-leb, leb-true}
use Rattle.text.specs.declared.Number.{Number}
use Rattle.text.specs.Digits.{number_of}
use Rattle.text.proofs.ReadLaws.{read_ok}
use Rattle.p6_whitespace.specs.Blanks.{whitespace_length}
use Rattle.p6_whitespace.proofs.BlankLaws.{rest-whole, whitespace-in}
use Rattle.p6_header.specs.P6Header.{placed, field_of}

-- The three ways of reading a field.
pub field-none : (l : List ℕ) → whitespace_length l ≡ 0 → None ≡ field_of l
unfolding field_of placed
field-none l e = rw e (split (number_of l))
  where
    split : (n : Option Number) → None ≡ placed 0 n
    split None = refl
    split (Some n) = refl

pub field-bad : (l : List ℕ) (blanks : ℕ) → blanks ≡ whitespace_length l → number_of (drop blanks l) ≡ None → None ≡ field_of l
unfolding field_of placed
field-bad l blanks e b = rw (← e, b)

pub field-read : (l : List ℕ) (blanks : ℕ) (n : Number) → blanks ≡ whitespace_length l → 1 ≤ blanks → number_of (drop blanks l) ≡ Some n
    → Some (record { value = n.value; count = blanks + n.count }) ≡ field_of l
unfolding field_of placed
field-read l blanks n e k b = rw (← e, b, le-leb 1 blanks k)

-- A field that was read is whitespace and a number, and lies in the bytes.
pub record FieldParts (l : List ℕ) (n : Number) : Type 0 where
  pub digits : Number
  pub some : 1 ≤ whitespace_length l
  pub number : number_of (drop (whitespace_length l) l) ≡ Some digits
  pub same : digits.value ≡ n.value
  pub whole : whitespace_length l + digits.count ≡ n.count

pub field-parts : (l : List ℕ) (n : Number) → field_of l ≡ Some n → FieldParts l n
unfolding field_of placed
field-parts l n e = split (number_of (drop blanks l)) refl e
  where
    blanks : ℕ
    blanks = whitespace_length l

    read : (t : Bool) (m : Number) → leb 1 blanks ≡ t → number_of (drop blanks l) ≡ Some m
        → cond {A = Option Number} t (Some (record { value = m.value; count = blanks + m.count })) None ≡ Some n → FieldParts l n
    read true m k a e =
        let is = same_Some _ _ e in
        record { digits = m; some = leb-true 1 blanks k; number = a; same = ap (λ (r : Number). r.value) is; whole = ap (λ (r : Number). r.count) is }
    read false m k a e = cc

    split : (m : Option Number) → number_of (drop blanks l) ≡ m → placed blanks m ≡ Some n → FieldParts l n
    split None a e = cc
    split (Some m) a e = read (leb 1 blanks) m refl a e

field_in : (l : List ℕ) (n : Number) → field_of l ≡ Some n → n.count ≤ length l
field_in l n e =
    let f = field-parts l n e in
    let s = read_ok (drop (whitespace_length l) l) f.digits f.number in
    omega (arith, length-drop (whitespace_length l) l, whitespace-in l)

-- A field at place `at` of a file, where the slice lent to the field's reader is the rest of the file.
pub field_told : (file : List ℕ) (at : ℕ) (n r : Option Number) → r ≡ field_of (take (length file - at) (drop at file)) → r ≡ n → field_of (drop at file) ≡ n
field_told file at n r e g = ap field_of (sym (rest-whole file at)) ∙ sym e ∙ g

pub record FieldAt (file : List ℕ) (at : ℕ) (n : Number) : Type 0 where
  pub is : field_of (drop at file) ≡ Some n
  pub within : at + n.count ≤ length file

pub field_at : (file : List ℕ) (at : ℕ) (n : Number) → at ≤ length file → Some n ≡ field_of (take (length file - at) (drop at file)) → FieldAt file at n
field_at file at n l e =
    let is = field_told file at (Some n) (Some n) e refl in
    record { is = is; within = omega (arith, field_in (drop at file) n is, length-drop at file) }
