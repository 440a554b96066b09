-- Laws of refusal numbers: what an accepted call knows of its sizes, and the answers of a refused one.
use Rattle.std.specs.Prelude.{Result, Ok, Err, is_err}
use mathlib.Core.Path.{◌≡◌, refl, sym, ap, ◌∙◌}
use mathlib.Core.Bool.{Bool, true, false, ◌||◌, true≢false}
use mathlib.Core.List.{List}
use Prim.Native.Nat.{ℕ, zero, suc, ◌/◌, ◌≤◌, ◌<◌}
use native.Mathlib.Nat.{mul-le-mul}
use native.Mathlib.Omega.{arith}
use lib.Dec.{ltb, eqb}
use lib.ListN.{length, get_or, take, drop, get_or-append}
use lib.Seq.{take_at}
use borrow.Author.Tests.{ltb-false, eqb-false, eqb-true, not-false}
use Rattle.rules.specs.Limits.{max_side, max_tolerance}
use Rattle.rules.specs.Bitmaps.{row_words}
use Rattle.rules.specs.Refusals.{◌when◌, ◌or_else◌, bad_side, bad_size, unhalvable, bad_tolerance, bad_percentile, wrong_length, short, raster_length, grey_length, bitmap_length}
use Rattle.rules.specs.Refusals.{grey_refusal, halve_refusal, threshold_refusal, bitmaps_refusal, shift_refusal, total_refusal, difference_refusal}
use Rattle.rules.specs.Accepted.{SizeOk, GreyOk, HalveOk, ThresholdOk, BitmapsOk, ShiftOk, TotalOk, DifferenceOk}
use Rattle.rules.specs.declared.Refusal.{Refusal}
use Rattle.rules.specs.RefusalNumbers.{number_of, number_in}
use Rattle.rules.specs.Answers.{answer_for, buffer_after}
use Rattle.rules.specs.Calls.{Fills}

-- A number that is not given: its condition does not apply.
pub when-no : (n : ℕ) (c : Bool) → 0 < n → n when c ≡ 0 → c ≡ false
when-no n true l e = absurd (omega arith)
when-no n false l e = refl

-- Nothing stands after the last condition.
pub or_else-none : (a : ℕ) → a or_else 0 ≡ a
or_else-none zero = refl
or_else-none (suc a) = refl

-- A number that is given stands before the rest.
pub or_else-first : (a b : ℕ) → (a ≡ 0 → ⊥) → a ≡ a or_else b
or_else-first zero b l = absurd (l refl)
or_else-first (suc a) b l = refl

pub or_else-no : (a b : ℕ) → a or_else b ≡ 0 → (a ≡ 0) × (b ≡ 0)
or_else-no zero b e = (refl, e)
or_else-no (suc a) b e = absurd (omega arith)

pub or_no : (a b : Bool) → a || b ≡ false → (a ≡ false) × (b ≡ false)
or_no true b e = absurd (true≢false e)
or_no false b e = (refl, e)

side-ok : (n : ℕ) → bad_side n ≡ false → (0 < n) × (n ≤ 4096)
unfolding bad_side
side-ok n e =
    let p = or_no (eqb n 0) (ltb max_side n) e in
    let q = eqb-false n 0 p.0 in
    (omega arith, ltb-false max_side n p.1)

pub size_ok : (w h : ℕ) → 2 when bad_size w h ≡ 0 → SizeOk w h
unfolding bad_size row_words
size_ok w h e =
    let p = or_no (bad_side w) (bad_side h) (when-no 2 (bad_side w || bad_side h) (omega arith) e) in
    let a = side-ok w p.0 in
    let b = side-ok h p.1 in
    let n : row_words w ≤ 64 = let l = a.1 in omega arith in
    record {
      wide = a.0;
      width = a.1;
      high = b.0;
      height = b.1;
      area = mul-le-mul a.1 b.1;
      row_of_words = n;
      bitmap = mul-le-mul n b.1;
    }

-- the same from a function's result t that is the test
pub size-known : (w h : ℕ) (t : Bool) → t ≡ bad_size w h → t ≡ false → SizeOk w h
size-known w h t e z = size_ok w h (rw (sym e ∙ z))

pub length-is : (needed given : ℕ) → wrong_length needed given ≡ false → given ≡ needed
length-is needed given e = eqb-true given needed (not-false (eqb given needed) e)

-- 9 and 10 that are not given.
pub length-no : (needed given : ℕ) → 9 when wrong_length needed given ≡ 0 → given ≡ needed
length-no needed given e = length-is needed given (when-no 9 (wrong_length needed given) (omega arith) e)

pub room-no : (needed given : ℕ) → 10 when short needed given ≡ 0 → needed ≤ given
room-no needed given e = ltb-false given needed (when-no 10 (short needed given) (omega arith) e)

pub grey-ok : (w h raster grey : ℕ) → grey_refusal w h raster grey ≡ 0 → GreyOk w h raster grey
unfolding grey_refusal
grey-ok w h raster grey e =
    let p = or_else-no (2 when bad_size w h) (9 when wrong_length (raster_length w h) raster or_else 10 when short (grey_length w h) grey) e in
    let q = or_else-no (9 when wrong_length (raster_length w h) raster) (10 when short (grey_length w h) grey) p.1 in
    record {
      size = size_ok w h p.0;
      exact = length-no (raster_length w h) raster q.0;
      room = room-no (grey_length w h) grey q.1;
    }

pub halve-ok : (w h grey out : ℕ) → halve_refusal w h grey out ≡ 0 → HalveOk w h grey out
unfolding halve_refusal unhalvable
halve-ok w h grey out e =
    let n10 : ℕ = 10 when short (grey_length (w / 2) (h / 2)) out in
    let n9 : ℕ = 9 when wrong_length (grey_length w h) grey in
    let n4 : ℕ = 4 when unhalvable w h in
    let p = or_else-no (2 when bad_size w h) (n4 or_else n9 or_else n10) e in
    let q = or_else-no n4 (n9 or_else n10) p.1 in
    let r = or_else-no n9 n10 q.1 in
    let s = or_no (ltb w 2) (ltb h 2) (when-no 4 (ltb w 2 || ltb h 2) (omega arith) q.0) in
    record {
      size = size_ok w h p.0;
      wide = ltb-false w 2 s.0;
      high = ltb-false h 2 s.1;
      exact = length-no (grey_length w h) grey r.0;
      room = room-no (grey_length (w / 2) (h / 2)) out r.1;
    }

pub percentile-ok : (p : ℕ) → bad_percentile p ≡ false → (17 ≤ p) × (p ≤ 83)
unfolding bad_percentile
percentile-ok p e = at17 (eqb p 17) refl
  where
    at83 : (t : Bool) → eqb p 83 ≡ t → eqb p 17 ≡ false → eqb p 50 ≡ false → (17 ≤ p) × (p ≤ 83)
    at83 true t a b = let z = eqb-true p 83 t in omega arith
    at83 false t a b = absurd (true≢false (simp (a, b, t) at e))

    at50 : (t : Bool) → eqb p 50 ≡ t → eqb p 17 ≡ false → (17 ≤ p) × (p ≤ 83)
    at50 true t a = let z = eqb-true p 50 t in omega arith
    at50 false t a = at83 (eqb p 83) refl a t

    at17 : (t : Bool) → eqb p 17 ≡ t → (17 ≤ p) × (p ≤ 83)
    at17 true t = let z = eqb-true p 17 t in omega arith
    at17 false t = at50 (eqb p 50) refl t

pub threshold-ok : (w h percentile grey : ℕ) → threshold_refusal w h percentile grey ≡ 0 → ThresholdOk w h percentile grey
unfolding threshold_refusal
threshold-ok w h percentile grey e =
    let n9 : ℕ = 9 when wrong_length (grey_length w h) grey in
    let n8 : ℕ = 8 when bad_percentile percentile in
    let p = or_else-no (2 when bad_size w h) (n8 or_else n9) e in
    let q = or_else-no n8 n9 p.1 in
    let r = percentile-ok percentile (when-no 8 (bad_percentile percentile) (omega arith) q.0) in
    record {
      size = size_ok w h p.0;
      least = let l = r.0 in omega arith;
      most = let l = r.1 in omega arith;
      exact = length-no (grey_length w h) grey q.1;
    }

pub bitmaps-ok : (w h tolerance grey thresholds exclusions : ℕ) → bitmaps_refusal w h tolerance grey thresholds exclusions ≡ 0
    → BitmapsOk w h tolerance grey thresholds exclusions
unfolding bitmaps_refusal bad_tolerance
bitmaps-ok w h tolerance grey thresholds exclusions e =
    let short1 : Bool = short (bitmap_length w h) thresholds in
    let short2 : Bool = short (bitmap_length w h) exclusions in
    let n10 : ℕ = 10 when (short1 || short2) in
    let n9 : ℕ = 9 when wrong_length (grey_length w h) grey in
    let n5 : ℕ = 5 when bad_tolerance tolerance in
    let p = or_else-no (2 when bad_size w h) (n5 or_else n9 or_else n10) e in
    let q = or_else-no n5 (n9 or_else n10) p.1 in
    let r = or_else-no n9 n10 q.1 in
    let s = or_no short1 short2 (when-no 10 (short1 || short2) (omega arith) r.1) in
    record {
      size = size_ok w h p.0;
      most = ltb-false max_tolerance tolerance (when-no 5 (bad_tolerance tolerance) (omega arith) q.0);
      exact = length-no (grey_length w h) grey r.0;
      room1 = ltb-false thresholds (bitmap_length w h) s.0;
      room2 = ltb-false exclusions (bitmap_length w h) s.1;
    }

pub shift-ok : (w h bitmap out : ℕ) → shift_refusal w h bitmap out ≡ 0 → ShiftOk w h bitmap out
unfolding shift_refusal
shift-ok w h bitmap out e =
    let n10 : ℕ = 10 when short (bitmap_length w h) out in
    let n9 : ℕ = 9 when wrong_length (bitmap_length w h) bitmap in
    let p = or_else-no (2 when bad_size w h) (n9 or_else n10) e in
    let q = or_else-no n9 n10 p.1 in
    record {
      size = size_ok w h p.0;
      exact = length-no (bitmap_length w h) bitmap q.0;
      room = room-no (bitmap_length w h) out q.1;
    }

pub total-ok : (w h bitmap : ℕ) → total_refusal w h bitmap ≡ 0 → TotalOk w h bitmap
unfolding total_refusal
total-ok w h bitmap e =
    let n9 : ℕ = 9 when wrong_length (bitmap_length w h) bitmap in
    let p = or_else-no (2 when bad_size w h) n9 e in
    record {
      size = size_ok w h p.0;
      exact = length-no (bitmap_length w h) bitmap p.1;
    }

pub difference-ok : (w h threshold1 exclusion1 threshold2 exclusion2 : ℕ)
    → difference_refusal w h threshold1 exclusion1 threshold2 exclusion2 ≡ 0
    → DifferenceOk w h threshold1 exclusion1 threshold2 exclusion2
unfolding difference_refusal
difference-ok w h threshold1 exclusion1 threshold2 exclusion2 e =
    let n : ℕ = bitmap_length w h in
    let c1 : Bool = wrong_length n threshold1 in
    let c2 : Bool = wrong_length n exclusion1 in
    let c3 : Bool = wrong_length n threshold2 in
    let c4 : Bool = wrong_length n exclusion2 in
    let p = or_else-no (2 when bad_size w h) (9 when (c1 || (c2 || (c3 || c4)))) e in
    let q = or_no c1 (c2 || (c3 || c4)) (when-no 9 (c1 || (c2 || (c3 || c4))) (omega arith) p.1) in
    let r = or_no c2 (c3 || c4) q.1 in
    let s = or_no c3 c4 r.1 in
    record {
      size = size_ok w h p.0;
      exact1 = length-is n threshold1 q.0;
      exact2 = length-is n exclusion1 r.0;
      exact3 = length-is n threshold2 s.0;
      exact4 = length-is n exclusion2 s.1;
    }

-- A refused call: its answer is its number, and a lent buffer holds what it held.
pub answer-refused : {A : Type 0} (n : ℕ) (v : A) → (n ≡ 0 → ⊥) → Err n ≡ answer_for n v
answer-refused zero v l = absurd (l refl)
answer-refused (suc n) v l = refl

pub buffer-refused : {A : Type 0} (n : ℕ) (out before : List A) → (n ≡ 0 → ⊥) → before ≡ buffer_after n out before
buffer-refused zero out before l = absurd (l refl)
buffer-refused (suc n) out before l = refl

-- The same by the refusal that the number stands for.
pub number-nonzero : (e : Refusal) → number_of e ≡ 0 → ⊥
number-nonzero Refusal.Header l = absurd (omega arith)
number-nonzero Refusal.Size l = absurd (omega arith)
number-nonzero Refusal.Halvings l = absurd (omega arith)
number-nonzero Refusal.Small l = absurd (omega arith)
number-nonzero Refusal.Tolerance l = absurd (omega arith)
number-nonzero Refusal.Frames l = absurd (omega arith)
number-nonzero Refusal.Reference l = absurd (omega arith)
number-nonzero Refusal.Percentile l = absurd (omega arith)
number-nonzero Refusal.Length l = absurd (omega arith)
number-nonzero Refusal.Room l = absurd (omega arith)
number-nonzero Refusal.Memory l = absurd (omega arith)
number-nonzero Refusal.Offset l = absurd (omega arith)
number-nonzero Refusal.Apart l = absurd (omega arith)
number-nonzero Refusal.Row l = absurd (omega arith)
number-nonzero Refusal.Band l = absurd (omega arith)
number-nonzero Refusal.Held l = absurd (omega arith)

-- Whether an answer is a refusal, by its number.
pub err-number : {A : Type 0} (r : Result A Refusal) → is_err r ≡ true → number_in r ≡ 0 → ⊥
err-number (Ok v) e z = true≢false (sym e)
err-number (Err refusal) e z = number-nonzero refusal z

pub ok-number : {A : Type 0} (r : Result A Refusal) → is_err r ≡ false → number_in r ≡ 0
ok-number (Ok v) e = refl
ok-number (Err refusal) e = absurd (true≢false e)

pub refused-number : (e : Refusal) (n : ℕ) → number_of e ≡ n → n ≡ 0 → ⊥
refused-number e n is z = number-nonzero e (is ∙ z)

pub refused-answer : {A : Type 0} (e : Refusal) (n : ℕ) (v : A) → number_of e ≡ n → Err (number_of e) ≡ answer_for n v
refused-answer e n v is = rw is (answer-refused n v (refused-number e n is))

pub refused-buffer : {A : Type 0} (e : Refusal) (n : ℕ) (out before : List A) → number_of e ≡ n → before ≡ buffer_after n out before
refused-buffer e n out before is = buffer-refused n out before (refused-number e n is)

pub refused-fills : (e : Refusal) (n : ℕ) (out before : List ℕ) → number_of e ≡ n → Fills n out before before (Err (number_of e))
refused-fills e n out before is = record { answered = refused-answer e n tt is; filled = refused-buffer e n out before is }

-- An accepted call: a lent buffer begins with what was written.
pub buffer-part : {A : Type 0} (number n : ℕ) (out before after : List A) → number ≡ 0 → length out ≡ n → after ≡ buffer_after number out before → take n after ≡ out
buffer-part number n out before after z size e =
    ap (take n) (e ∙ ap (λ (k : ℕ). buffer_after k out before) z) ∙ take_at out (drop (length out) before) n size

pub buffer-at : {A : Type 0} (number : ℕ) (out before : List A) (d : A) (i : ℕ) → number ≡ 0 → i < length out → get_or (buffer_after number out before) i d ≡ get_or out i d
buffer-at number out before d i z l = rw z (get_or-append out (drop (length out) before) d i l)
