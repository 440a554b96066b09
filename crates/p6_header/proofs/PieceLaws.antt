-- The pieces of the grammar: each is found where it stands, and what is found is such a piece.
use mathlib.Core.Path.{◌≡◌, refl, sym, ap, subst, ◌∙◌}
use mathlib.Core.Bool.{Bool, true, false, true≢false}
use mathlib.Core.List.{List, [], ◌∷◌, ◌++◌, append_assoc}
use Prim.Native.Nat.{ℕ, ◌≤◌}
use native.Mathlib.Omega.{arith}
use lib.ListN.{length, take, drop, length-append}
use lib.Seq.{length-take-le, take-append_seam, drop-append_seam, take-add}
use borrow.Author.Tests.{le-leb, ne_eqb}
use Rattle.std.proofs.Common.{Some}
use Rattle.text.specs.declared.Number.{Number}
use Rattle.text.specs.Digits.{is_digit, leading, number_of}
use Rattle.text.proofs.ReadLaws.{leading-all, leading-none, leading-pass, digit-range, read_ok}
use Rattle.p6_whitespace.specs.Whitespace.{is_white, White, hash, WhiteOrComment, Whitespace}
use Rattle.p6_whitespace.specs.Blanks.{blank_length, whitespace_length}
use Rattle.p6_whitespace.proofs.WhitespaceLaws.{every-leads, leads-every, whitespace-found, whitespace-some, whitespace-spelled}
use Rattle.p6_header.specs.P6Grammar.{Spells, Field}
use Rattle.p6_header.specs.P6Header.{field_of}
use Rattle.p6_header.proofs.FieldLaws.{field-read, field-parts}

-- ---- numbers

number-found : {value : ℕ} {bytes : List ℕ} → Spells value bytes → (l : List ℕ) → leading is_digit l ≡ 0 → number_of (bytes ++ l) ≡ Some (record { value = value; count = length bytes })
unfolding number_of
number-found {value} {bytes} s l z =
    rw (leads, le-leb 1 (length bytes) s.least, le-leb (length bytes) 9 s.most, take-append_seam bytes l, sym s.is)
  where
    leads : leading is_digit (bytes ++ l) ≡ length bytes
    leads = let a = leading-all is_digit bytes l (every-leads is_digit s.digits) in omega arith

pub number_spelled : (l : List ℕ) (n : Number) → number_of l ≡ Some n → Spells n.value (take n.count l)
number_spelled l n e =
    let s = read_ok l n e in
    let size = length-take-le n.count l s.within in
    record { digits = leads-every is_digit l n.count (omega arith); least = omega arith; most = omega arith; is = s.is }

-- ---- fields

-- A digit begins no blank, and no blank begins with a digit.
digit-not-white : (b : ℕ) → is_digit b ≡ true → is_white b ≡ false
unfolding is_white
digit-not-white b e =
    let r = digit-range b e in
    rw (ne_eqb b 9 (λ z. omega arith), ne_eqb b 10 (λ z. omega arith), ne_eqb b 13 (λ z. omega arith), ne_eqb b 32 (λ z. omega arith))

pub white-not-digit : (b : ℕ) → is_white b ≡ true → is_digit b ≡ false
white-not-digit b e = split (is_digit b) refl
  where
    split : (t : Bool) → is_digit b ≡ t → t ≡ false
    split true d = absurd (true≢false (sym e ∙ digit-not-white b d))
    split false d = refl

digit-no-blank : (l : List ℕ) → 1 ≤ leading is_digit l → blank_length l ≡ 0
unfolding blank_length leading
digit-no-blank [] k = absurd (omega arith)
digit-no-blank (b ∷ l) k =
    let e = leading-pass is_digit (b ∷ l) 0 k in
    let r = digit-range b e in
    rw (digit-not-white b e, ne_eqb b hash (λ z. omega arith))

blank-first : {bytes : List ℕ} → WhiteOrComment bytes → (l : List ℕ) → leading is_digit (bytes ++ l) ≡ 0
unfolding is_digit
blank-first (WhiteOrComment.white (White.byte {b} e)) l = leading-none is_digit b l (white-not-digit b e)
blank-first (WhiteOrComment.comment c) l = rw c.spelled (leading-none is_digit hash _ refl)

whitespace-first : {bytes : List ℕ} → Whitespace WhiteOrComment bytes → (l : List ℕ) → leading is_digit (bytes ++ l) ≡ 0
whitespace-first (Whitespace.one b) l = blank-first b l
whitespace-first (Whitespace.more {bytes} {rest} b w) l = rw (append_assoc bytes rest l) (blank-first b (rest ++ l))

pub field-first : {value : ℕ} {bytes : List ℕ} → Field WhiteOrComment value bytes → (l : List ℕ) → leading is_digit (bytes ++ l) ≡ 0
field-first f l = rw (f.spelled, append_assoc f.blanks f.number l) (whitespace-first f.whitespace (f.number ++ l))

pub field_found : {value : ℕ} {bytes : List ℕ} → Field WhiteOrComment value bytes → (l : List ℕ) → leading is_digit l ≡ 0 → field_of (bytes ++ l) ≡ Some (record { value = value; count = length bytes })
field_found {value} {bytes} f l z =
    rw (f.spelled, append_assoc f.blanks f.number l, length-append f.blanks f.number)
    (sym (field-read (f.blanks ++ rest) (length f.blanks) (record { value = value; count = length f.number }) (sym white) (whitespace-some f.whitespace)
    (rw (drop-append_seam f.blanks rest) (number-found f.spells l z))))
  where
    rest : List ℕ
    rest = f.number ++ l

    begins : 1 ≤ leading is_digit rest
    begins = omega (arith, leading-all is_digit f.number l (every-leads is_digit f.spells.digits), f.spells.least)

    white : whitespace_length (f.blanks ++ rest) ≡ length f.blanks
    white = whitespace-found f.whitespace rest (digit-no-blank rest begins)

pub field-spelled : (l : List ℕ) (n : Number) → field_of l ≡ Some n → Field WhiteOrComment n.value (take n.count l)
field-spelled l n e =
    let blanks = whitespace_length l in
    let f = field-parts l n e in
    record {
      blanks = take blanks l;
      number = take f.digits.count (drop blanks l);
      spelled = ap (λ (k : ℕ). take k l) (sym f.whole) ∙ take-add blanks f.digits.count l;
      whitespace = whitespace-spelled l f.some;
      spells = subst (λ (v : ℕ). Spells v (take f.digits.count (drop blanks l))) f.same (number_spelled (drop blanks l) f.digits f.number);
    }
