-- The header that is found is the grammar's: piece after piece, in both directions. What document 01's grammar has, document 02's has too,
-- and beyond it nothing without a `#`.
use mathlib.Core.Path.{◌≡◌, refl, sym, ap, ◌∙◌}
use mathlib.Core.Bool.{Bool, true, false, ◌&&◌, cond, false≢true}
use mathlib.Core.List.{List, [], ◌∷◌, ◌++◌, append_assoc}
use Prim.Native.Nat.{ℕ, suc, ◌+◌}
use native.Mathlib.Nat.{add-zero}
use native.Mathlib.Numerals.{add-one}
use native.Mathlib.Omega.{arith}
use lib.Dec.{eqb}
use Rattle.std.proofs.Common.{Option, Some, None}
use Rattle.std.proofs.lemmas.Option.{same_Some, none-some}
use lib.ListN.{length, get_or, take, drop, length-append, length-drop, take-append-drop}
use lib.Seq.{drop-cons, take_at, drop-append_seam, drop-drop, get_or-drop}
use borrow.Author.Tests.{le-leb, eqb-true, not-true}
use Rattle.text.specs.declared.Number.{Number}
use Rattle.text.specs.Digits.{is_digit, leading}
use Rattle.text.proofs.ReadLaws.{leading-none}
use Rattle.p6_header.specs.declared.Header.{Header}
use Rattle.p6_whitespace.specs.Whitespace.{Every, is_white, White, hash, WhiteOrComment, Whitespace}
use Rattle.p6_header.specs.P6Grammar.{magic, Field, P6}
use Rattle.p6_header.specs.P6Header.{is_magic, field_of, after, ending, fields, header_of, start_in}
use Rattle.p6_header.specs.ByGrammar.{Tells, ByGrammar, no_hash, AsBefore}
use Rattle.p6_whitespace.proofs.BlankLaws.{white-within, whitespace-plain}
use Rattle.p6_header.proofs.PieceLaws.{white-not-digit, field-first, field_found, field-spelled}
use Rattle.p6_header.proofs.HeaderLaws.{magic-begins}

-- ---- what the grammar has is found

-- a field that stands at place `at`, and what follows it
field_next : {value : ℕ} {bytes : List ℕ} (file : List ℕ) (at : ℕ) (l : List ℕ) → Field WhiteOrComment value bytes → drop at file ≡ bytes ++ l → leading is_digit l ≡ 0
    → (field_of (drop at file) ≡ Some (record { value = value; count = length bytes })) × (drop (at + length bytes) file ≡ l)
field_next {value} {bytes} file at l f d z =
    (rw d (field_found f l z), sym (drop-drop (length bytes) at file) ∙ rw d (drop-append_seam bytes l))

found : (file : List ℕ) (w h start : ℕ) → P6 WhiteOrComment file w h start → header_of file ≡ Some (record { w = w; h = h; start = start })
unfolding header_of fields after ending
found file w h start p =
    let f3 : List ℕ = p.largest ++ (p.white ∷ p.raster) in
    let f2 : List ℕ = p.height ++ f3 in
    let f1 : List ℕ = p.width ++ f2 in
    let whole : file ≡ magic ++ f1 = p.spelled ∙ simp append_assoc in
    let at1 : ℕ = 2 + length p.width in
    let at2 : ℕ = at1 + length p.height in
    let at3 : ℕ = at2 + length p.largest in
    let first = field_next file 2 f2 p.is_width (ap (drop 2) whole) (field-first p.is_height f3) in
    let second = field_next file at1 f3 p.is_height first.1 (field-first p.is255 (p.white ∷ p.raster)) in
    let third = field_next file at2 (p.white ∷ p.raster) p.is255 second.1 (leading-none is_digit p.white p.raster (white-not-digit p.white p.is_one)) in
    let white : get_or file at3 0 ≡ p.white = ap (λ (i : ℕ). get_or file i 0) (sym (add-zero at3)) ∙ sym (get_or-drop at3 file 0 0) ∙ ap (λ (r : List ℕ). get_or r 0 0) third.1 in
    let place : at3 + 1 ≡ start = omega (arith, p.begins, ap length third.1, length-drop at3 file) in
    rw (ap is_magic whole ∙ magic-begins f1, first.0, second.0, third.0, white, p.is_one, place)

-- ---- what is found is the grammar's

magic-spelled : (file : List ℕ) → is_magic file ≡ true → take 2 file ≡ magic
unfolding is_magic
magic-spelled [] e = absurd (false≢true e)
magic-spelled (a ∷ []) e = absurd (false≢true e)
magic-spelled (a ∷ b ∷ l) e = split (eqb a 0x50) (eqb b 0x36) refl refl (rw (le-leb 2 (suc (suc (length l))) (omega arith)) at e)
  where
    split : (t u : Bool) → eqb a 0x50 ≡ t → eqb b 0x36 ≡ u → t && u ≡ true → a ∷ b ∷ [] ≡ magic
    split true true c d e = rw (eqb-true a 0x50 c, eqb-true b 0x36 d)
    split true false c d e = absurd (false≢true e)
    split false u c d e = absurd (false≢true e)

-- a field on the way to a header, and what its end comes to
record Read (at : ℕ) (n : Option Number) (next : ℕ → ℕ → Option Header) (header : Header) : Type 0 where
  number : Number
  is : n ≡ Some number
  on : next number.value (at + number.count) ≡ Some header

after-good : (at : ℕ) (n : Option Number) (next : ℕ → ℕ → Option Header) (header : Header) → after at n next ≡ Some header → Read at n next header
unfolding after
after-good at None next header e = cc
after-good at (Some n) next header e = record { number = n; is = refl; on = e }

record Ended (file : List ℕ) (w h largest at : ℕ) (header : Header) : Type 0 where
  is255 : largest ≡ 255
  is_one : is_white (get_or file at 0) ≡ true
  width : w ≡ header.w
  height : h ≡ header.h
  begins : at + 1 ≡ header.start

ending-good : (file : List ℕ) (w h largest at : ℕ) (header : Header) → ending file w h largest at ≡ Some header → Ended file w h largest at header
unfolding ending
ending-good file w h largest at header e = split (eqb largest 255) (is_white (get_or file at 0)) refl refl e
  where
    split : (t u : Bool) → eqb largest 255 ≡ t → is_white (get_or file at 0) ≡ u
        → cond {A = Option Header} (t && u) (Some (record { w = w; h = h; start = at + 1 })) None ≡ Some header
        → Ended file w h largest at header
    split true true a b e =
        let is = same_Some _ _ e in
        record {
          is255 = eqb-true largest 255 a;
          is_one = b;
          width = ap (λ (r : Header). r.w) is;
          height = ap (λ (r : Header). r.h) is;
          begins = ap (λ (r : Header). r.start) is;
        }
    split true false a b e = cc
    split false u a b e = cc

-- the rest of a file from a place on: a piece of it, and the rest after that
piece : (file : List ℕ) (at count : ℕ) → drop at file ≡ take count (drop at file) ++ drop (at + count) file
piece file at count = sym (take-append-drop count (drop at file)) ∙ rw (drop-drop count at file)

appended : (m f1 f2 f3 : List ℕ) {l l1 l2 l3 l4 r : List ℕ} {b : ℕ} → l ≡ m ++ l1 → l1 ≡ f1 ++ l2 → l2 ≡ f2 ++ l3 → l3 ≡ f3 ++ l4 → l4 ≡ b ∷ r
    → l ≡ m ++ f1 ++ f2 ++ f3 ++ (b ∷ []) ++ r
appended m f1 f2 f3 e e1 e2 e3 e4 = e ∙ rw (e1, e2, e3, e4) (simp append_assoc)

module _ (file : List ℕ) (marked : is_magic file ≡ true) (w h c1 c2 c3 : ℕ) where
  abbrev at1 : ℕ
  at1 = 2 + c1

  abbrev at2 : ℕ
  at2 = at1 + c2

  abbrev at3 : ℕ
  at3 = at2 + c3

  pieces : is_white (get_or file at3 0) ≡ true
      → file ≡ magic ++ take c1 (drop 2 file) ++ take c2 (drop at1 file) ++ take c3 (drop at2 file) ++ (get_or file at3 0 ∷ []) ++ drop (at3 + 1) file
  pieces one =
      appended magic (take c1 (drop 2 file)) (take c2 (drop at1 file)) (take c3 (drop at2 file)) begun (piece file 2 c1) (piece file at1 c2) (piece file at2 c3) ended
    where
      begun : file ≡ magic ++ drop 2 file
      begun = sym (take-append-drop 2 file) ∙ ap (λ (l : List ℕ). l ++ drop 2 file) (magic-spelled file marked)

      ended : drop at3 file ≡ get_or file at3 0 ∷ drop (at3 + 1) file
      ended = rw (add-one at3) (drop-cons file at3 0 (white-within file at3 one))

  pieces-spelled : field_of (drop 2 file) ≡ Some (record { value = w; count = c1 }) → field_of (drop at1 file) ≡ Some (record { value = h; count = c2 })
      → field_of (drop at2 file) ≡ Some (record { value = 255; count = c3 }) → is_white (get_or file at3 0) ≡ true → P6 WhiteOrComment file w h (at3 + 1)
  pieces-spelled first second third one = record {
    width = take c1 (drop 2 file);
    height = take c2 (drop at1 file);
    largest = take c3 (drop at2 file);
    white = get_or file at3 0;
    raster = drop (at3 + 1) file;
    spelled = pieces one;
    is_width = field-spelled (drop 2 file) (record { value = w; count = c1 }) first;
    is_height = field-spelled (drop at1 file) (record { value = h; count = c2 }) second;
    is255 = field-spelled (drop at2 file) (record { value = 255; count = c3 }) third;
    is_one = one;
    begins = omega (arith, white-within file at3 one, length-drop (at3 + 1) file);
  }

fields-spelled : (file : List ℕ) (header : Header) → is_magic file ≡ true → fields file ≡ Some header → P6 WhiteOrComment file header.w header.h header.start
unfolding fields
fields-spelled file header m e =
    let first = after-good 2 (field_of (drop 2 file)) _ header e in
    let at1 : ℕ = 2 + first.number.count in
    let second = after-good at1 (field_of (drop at1 file)) _ header first.on in
    let at2 : ℕ = at1 + second.number.count in
    let third = after-good at2 (field_of (drop at2 file)) _ header second.on in
    let at3 : ℕ = at2 + third.number.count in
    let end = ending-good file first.number.value second.number.value third.number.value at3 header third.on in
    let whole : third.number ≡ record { value = 255; count = third.number.count } = ap (λ (v : ℕ). record { value = v; count = third.number.count }) end.is255 in
    same first.number.value header.w second.number.value header.h (at3 + 1) header.start end.width end.height end.begins
    (pieces-spelled file m first.number.value second.number.value first.number.count second.number.count third.number.count first.is second.is
    (third.is ∙ ap Some whole) end.is_one)
  where
    same : (w w' h h' start start' : ℕ) → w ≡ w' → h ≡ h' → start ≡ start' → P6 WhiteOrComment file w h start → P6 WhiteOrComment file w' h' start'
    same w w' h h' start start' a b c p = rw (← a, ← b, ← c) p

spelled : (file : List ℕ) (header : Header) → header_of file ≡ Some header → P6 WhiteOrComment file header.w header.h header.start
unfolding header_of
spelled file header e = split (is_magic file) refl e
  where
    split : (t : Bool) → is_magic file ≡ t → cond t (fields file) None ≡ Some header → P6 WhiteOrComment file header.w header.h header.start
    split true m e = fields-spelled file header m e
    split false m e = cc

-- a file in which no header is found has none, by any grammar whose headers are found
none_found : (Blank : List ℕ → Type 0) (file : List ℕ)
    → ((w h start : ℕ) → P6 Blank file w h start → header_of file ≡ Some (record { w = w; h = h; start = start }))
    → header_of file ≡ None → Tells Blank file None
none_found Blank file all e w h start p = none-some _ (sym e ∙ all w h start p)

pub by-grammar : ByGrammar
by-grammar = record { told = λ file. tells file (header_of file) refl; only = only }
  where
    tells : (file : List ℕ) (r : Option Header) → header_of file ≡ r → Tells WhiteOrComment file r
    tells file (Some header) e = spelled file header e
    tells file None e = none_found WhiteOrComment file (found file) e

    bad : (file : List ℕ) (r : Option Header) → header_of file ≡ r → Tells WhiteOrComment file None → r ≡ None
    bad file (Some header) e none = absurd (none header.w header.h header.start (spelled file header e))
    bad file None e none = refl

    only : (file : List ℕ) (r : Option Header) → Tells WhiteOrComment file r → header_of file ≡ r
    only file (Some header) p = found file header.w header.h header.start p
    only file None none = bad file (header_of file) refl none

pub tells-found : (file : List ℕ) (r : Option Header) → r ≡ header_of file → Tells WhiteOrComment file r
tells-found file r e = rw e (by-grammar.told file)

-- ---- document 01's grammar and document 02's

every-apart : {test : ℕ → Bool} (a b : List ℕ) → Every test (a ++ b) → Every test a × Every test b
every-apart [] b every = (Every.none, every)
every-apart (x ∷ a) b (Every.next e every) =
    let both = every-apart a b every in
    (Every.next e both.0, both.1)

-- If every blank of kind A whose bytes pass a test is of kind B, so is whitespace, a field, a file.
module _ (A B : List ℕ → Type 0) (test : ℕ → Bool) (turned : (l : List ℕ) → Every test l → A l → B l) where
  whitespace-turned : {bytes : List ℕ} → Every test bytes → Whitespace A bytes → Whitespace B bytes
  whitespace-turned every (Whitespace.one a) = Whitespace.one (turned _ every a)
  whitespace-turned every (Whitespace.more {bytes} {rest} a w) =
      let both = every-apart bytes rest every in
      Whitespace.more (turned bytes both.0 a) (whitespace-turned both.1 w)

  field-turned : {value : ℕ} {bytes : List ℕ} → Every test bytes → Field A value bytes → Field B value bytes
  field-turned every f = record {
    blanks = f.blanks;
    number = f.number;
    spelled = f.spelled;
    whitespace = whitespace-turned (every-apart f.blanks f.number (rw f.spelled at every)).0 f.whitespace;
    spells = f.spells;
  }

  file-turned : (file : List ℕ) (w h start : ℕ) → Every test (take start file) → P6 A file w h start → P6 B file w h start
  file-turned file w h start every p =
      let most : List ℕ = magic ++ p.width ++ p.height ++ p.largest in
      let head : List ℕ = most ++ (p.white ∷ []) in
      let size : length head ≡ start = omega (arith, p.begins, ap length p.spelled, length-append head p.raster) in
      let whole : Every test head = rw (p.spelled, take_at head p.raster start size) at every in
      let fields3 = every-apart (magic ++ p.width ++ p.height) p.largest (every-apart most (p.white ∷ []) whole).0 in
      let fields2 = every-apart (magic ++ p.width) p.height fields3.0 in
      record {
        width = p.width;
        height = p.height;
        largest = p.largest;
        white = p.white;
        raster = p.raster;
        spelled = p.spelled;
        is_width = field-turned (every-apart magic p.width fields2.0).1 p.is_width;
        is_height = field-turned fields2.1 p.is_height;
        is255 = field-turned fields3.1 p.is255;
        is_one = p.is_one;
        begins = p.begins;
      }

any-bytes : (l : List ℕ) → Every (λ b. true) l
any-bytes [] = Every.none
any-bytes (b ∷ l) = Every.next refl (any-bytes l)

-- a blank without a `#` is no comment
white-without-hash : (l : List ℕ) → Every no_hash l → WhiteOrComment l → White l
white-without-hash l every (WhiteOrComment.white w) = w
white-without-hash l every (WhiteOrComment.comment c) = absurd (first (rw c.spelled at every))
  where
    first : {l : List ℕ} → Every no_hash (hash ∷ l) → ⊥
    first (Every.next e every) = false≢true e

kept : (file : List ℕ) (w h start : ℕ) → P6 White file w h start → header_of file ≡ Some (record { w = w; h = h; start = start })
kept file w h start p =
    found file w h start (file-turned White WhiteOrComment (λ b. true) (λ l every b. WhiteOrComment.white b) file w h start (any-bytes (take start file)) p)

pub as_before : AsBefore
unfolding start_in
as_before = record { kept = kept; unchanged = λ file every. tells file (header_of file) refl every; whitespace = λ l e. whitespace-plain l (not-true _ e) }
  where
    tells : (file : List ℕ) (r : Option Header) → header_of file ≡ r → Every no_hash (take (start_in r) file) → Tells White file r
    tells file (Some header) e every =
        file-turned WhiteOrComment White no_hash white-without-hash file header.w header.h header.start every (spelled file header e)
    tells file None e every = none_found White file (kept file) e
