-- Laws of the common area: signed tests and sums as the machine reads them, the sides frame by frame, and the refusal numbers.
use Rattle.rules.specs.Answers.{answer_for}
use Rattle.rules.specs.declared.Refusal.{Refusal}
use Rattle.rules.specs.RefusalNumbers.{number_of}
use Rattle.std.specs.Prelude.{Ok, Err}
use mathlib.Core.Path.{◌≡◌, refl, sym, ap, fun_ext, ◌∙◌}
use mathlib.Core.Bool.{Bool, true, false, ◌||◌, not, cond, true≢false}
use mathlib.Core.List.{List, [], ◌∷◌}
use Prim.Native.Nat.{ℕ, zero, suc, ◌+◌, ◌*◌, ◌^◌, ◌≤◌, ◌<◌}
use native.Mathlib.Nat.{add-zero}
use native.Mathlib.Numerals.{add-one}
use native.Mathlib.Omega.{arith}
use Rattle.std.specs.List.{list_any}
use Rattle.std.specs.Int.{int_min, int_max}
use lib.Dec.{T, ltb}
use lib.IntN.{ℤ, pos, negsuc, nat_abs, ◌+ℤ◌}
use lib.ListN.{length, get_or}
use lib.Signed.{mag, lt_z, non_neg}
use mir.Syntax.{w32, w64}
use mir.Val.{Fits, SFits, to_z, of_z}
use mir.Facts.{to_z-of_z, to_z_pos, Fits-nat_abs}
use borrow.Author.Tests.{ltb-false}
use Rattle.rules.specs.Refusals.{◌when◌, ◌or_else◌, bad_size, bad_frames, wrong_length}
use Rattle.rules.proofs.RefusalLaws.{size_ok, when-no, or_else-no, or_no, length-is, number-nonzero}
use Rattle.rules.proofs.SignedLaws.{sum_fits, small-fits}
use Rattle.area.specs.declared.Area.{Area}
use Rattle.area.specs.Common.{dx_of, larger, smaller, low_side, high_side, outside, some_outside, nothing_common, area_refusal, common_area}
use Rattle.area.specs.Sides.{axis_of, offsets_refusal, InRange}

-- ---- numbers as the machine reads them

pub read_back : (z : ℤ) → mag z < 2 ^ 31 → to_z w32 (of_z w32 z) ≡ z
read_back z l = to_z-of_z {w = w32} (record { sfits = l })

pub tested : (a b : ℤ) (t : Bool) → mag a < 2 ^ 31 → mag b < 2 ^ 31 → lt_z (to_z w32 (of_z w32 a)) (to_z w32 (of_z w32 b)) ≡ t → lt_z a b ≡ t
tested a b t p q e = rw (read_back a p, read_back b q) at e

cast_fits : (z : ℤ) → mag z < 2 ^ 31 → T (non_neg z) → T (non_neg (to_z w32 (of_z w32 z))) × Fits w64 (nat_abs (to_z w32 (of_z w32 z)))
cast_fits z l p = rw (read_back z l) (p, Fits-nat_abs {w = w32} {z = z} tt (record { sfits = l }))

-- a side as a signed number, and its sum with an offset that is in range
pub whole_is : (side : ℕ) → side ≤ 4096 → to_z w32 side ≡ pos side
whole_is side l = to_z_pos w32 (omega arith)

module _ (side : ℕ) (z : ℤ) (l : side ≤ 4096) (m : nat_abs z ≤ 32768) where
  whole_sum : to_z w32 side +ℤ to_z w32 (of_z w32 z) ≡ pos side +ℤ z
  whole_sum = rw (whole_is side l, to_z-of_z (small-fits z (omega arith)))

  pub whole-fits : SFits w32 (to_z w32 side +ℤ to_z w32 (of_z w32 z))
  whole-fits = rw whole_sum (sum_fits (pos side) z (omega arith) (omega arith))

  pub whole-read : to_z w32 (of_z w32 (to_z w32 side +ℤ to_z w32 (of_z w32 z))) ≡ pos side +ℤ z
  whole-read = to_z-of_z whole-fits ∙ whole_sum

-- ---- the sides, frame by frame

pub low-none : (d : ℕ → ℤ) → pos 0 ≡ low_side 0 d
unfolding low_side
low-none d = refl

pub low-more : (k : ℕ) (d : ℕ → ℤ) → larger (low_side k d) (d k) ≡ low_side (k + 1) d
unfolding low_side
low-more k d = rw (add-one k)

-- a turn, by std's words for the larger and the smaller of two
pub low_turn : (k : ℕ) (d : ℕ → ℤ) (low z : ℤ) → low ≡ low_side k d → z ≡ d k → int_max z low ≡ low_side (k + 1) d
unfolding larger
low_turn k d low z e f = rw (e, f) (low-more k d)

pub high-none : (side : ℕ) (d : ℕ → ℤ) → pos side ≡ high_side side 0 d
unfolding high_side
high-none side d = refl

pub high-more : (side k : ℕ) (d : ℕ → ℤ) → smaller (high_side side k d) (pos side +ℤ d k) ≡ high_side side (k + 1) d
unfolding high_side
high-more side k d = rw (add-one k)

pub high_turn : (side k : ℕ) (d : ℕ → ℤ) (high z : ℤ) → high ≡ high_side side k d → z ≡ pos side +ℤ d k → int_min high z ≡ high_side side (k + 1) d
unfolding smaller
high_turn side k d high z e f = rw (e, f) (high-more side k d)

above : (a b : ℤ) → T (non_neg a) → lt_z a b ≡ true → T (non_neg b)
above (pos a) (pos b) p e = tt
above (pos a) (negsuc b) p e = absurd (true≢false (sym e))
above (negsuc a) b p e = absurd p

larger-up : (a b : ℤ) → T (non_neg a) → T (non_neg (larger a b))
unfolding larger
larger-up a b p = pick (lt_z a b) refl
  where
    pick : (t : Bool) → lt_z a b ≡ t → T (non_neg (cond t b a))
    pick true e = above a b p e
    pick false e = p

low-nonneg : (n : ℕ) (d : ℕ → ℤ) → T (non_neg (low_side n d))
unfolding low_side
low-nonneg zero d = tt
low-nonneg (suc n) d = larger-up (low_side n d) (d n) (low-nonneg n d)

-- ---- numbers outside their range

near-inside : (z : ℤ) → outside z ≡ false → nat_abs z ≤ 32768
unfolding outside
near-inside (pos n) e = let l = ltb-false 32767 n e in omega arith
near-inside (negsuc n) e = let l = ltb-false 32767 n (or_no (ltb 32767 n) false e).0 in omega arith

in-range : (l : List ℤ) → some_outside l ≡ false → (k : ℕ) → k < length l → nat_abs (get_or l k (pos 0)) ≤ 32768
unfolding some_outside
in-range [] e k m = absurd (omega arith)
in-range (z ∷ l) e zero m = near-inside z (or_no (outside z) (some_outside l) e).0
in-range (z ∷ l) e (suc k) m = in-range l (or_no (outside z) (some_outside l) e).1 k (omega arith)

-- by std's word
pub some-any : (l : List ℤ) → some_outside l ≡ list_any outside l
unfolding some_outside
some-any [] = refl
some-any (z ∷ l) = ap (λ (t : Bool). outside z || t) (some-any l)

-- ---- the area from its sides

-- two signed numbers that are the sides on an axis
pub record Bounds (side n : ℕ) (d : ℕ → ℤ) (low high : ℤ) : Type 0 where
  pub low-is : low ≡ low_side n d
  pub high_is : high ≡ high_side side n d
  pub low_fits : mag low < 2 ^ 31
  pub high_fits : mag high < 2 ^ 31

module _ (side n : ℕ) (d : ℕ → ℤ) (low high : ℤ) (s : Bounds side n d low high) where
  told : (x : Bool) → lt_z (to_z w32 (of_z w32 low)) (to_z w32 (of_z w32 high)) ≡ x → lt_z low high ≡ x
  told x e = tested low high x s.low_fits s.high_fits e

  low_up : T (non_neg low)
  low_up = rw s.low-is (low-nonneg n d)

  pub low-casts : T (non_neg (to_z w32 (of_z w32 low))) × Fits w64 (nat_abs (to_z w32 (of_z w32 low)))
  low-casts = cast_fits low s.low_fits low_up

  pub high-casts : lt_z (to_z w32 (of_z w32 low)) (to_z w32 (of_z w32 high)) ≡ true → T (non_neg (to_z w32 (of_z w32 high))) × Fits w64 (nat_abs (to_z w32 (of_z w32 high)))
  high-casts e = cast_fits high s.high_fits (above low high low_up (told true e))

columns-are : (offsets : List ℤ) → axis_of offsets 0 ≡ dx_of offsets
columns-are offsets = fun_ext (λ k. ap (λ (j : ℕ). get_or offsets j (pos 0)) (add-zero (2 * k)))

-- the area as the casts leave it
abbrev cast_area : ℤ → ℤ → ℤ → ℤ → Area
cast_area l r t b = record {
  left = nat_abs (to_z w32 (of_z w32 l));
  right = nat_abs (to_z w32 (of_z w32 r));
  top = nat_abs (to_z w32 (of_z w32 t));
  bottom = nat_abs (to_z w32 (of_z w32 b));
}

module _ (w h n : ℕ) (offsets : List ℤ) (l r t b : ℤ) (columns : Bounds w n (axis_of offsets 0) l r) (lines : Bounds h n (axis_of offsets 1) t b) where
  cast_is : cast_area l r t b ≡ common_area w h n offsets
  unfolding common_area
  cast_is =
      rw (read_back l columns.low_fits, read_back r columns.high_fits, read_back t lines.low_fits, read_back b lines.high_fits)
      (rw (columns.low-is, columns.high_is, lines.low-is, lines.high_is, columns-are offsets))

  nothing_is : not (lt_z l r) || not (lt_z t b) ≡ nothing_common w h n offsets
  unfolding nothing_common
  nothing_is = rw (columns.low-is, columns.high_is, lines.low-is, lines.high_is, columns-are offsets)

  pub area-told : lt_z (to_z w32 (of_z w32 l)) (to_z w32 (of_z w32 r)) ≡ true → lt_z (to_z w32 (of_z w32 t)) (to_z w32 (of_z w32 b)) ≡ true
      → Ok (cast_area l r t b) ≡ answer_for (13 when nothing_common w h n offsets) (common_area w h n offsets)
  area-told p q = rw (← nothing_is, told w n (axis_of offsets 0) l r columns true p, told h n (axis_of offsets 1) t b lines true q, cast_is)

  pub no-column : lt_z (to_z w32 (of_z w32 l)) (to_z w32 (of_z w32 r)) ≡ false
      → Err 13 ≡ answer_for (13 when nothing_common w h n offsets) (common_area w h n offsets)
  no-column p = rw (← nothing_is, told w n (axis_of offsets 0) l r columns false p)

  pub no_row : lt_z (to_z w32 (of_z w32 l)) (to_z w32 (of_z w32 r)) ≡ true → lt_z (to_z w32 (of_z w32 t)) (to_z w32 (of_z w32 b)) ≡ false
      → Err 13 ≡ answer_for (13 when nothing_common w h n offsets) (common_area w h n offsets)
  no_row p q = rw (← nothing_is, told w n (axis_of offsets 0) l r columns true p, told h n (axis_of offsets 1) t b lines false q)

-- ---- the refusal numbers

or_else-assoc : (a b c : ℕ) → a or_else (b or_else c) ≡ (a or_else b) or_else c
or_else-assoc zero b c = refl
or_else-assoc (suc a) b c = refl

pub refusal-split : (w h n : ℕ) (offsets : List ℤ) → area_refusal w h n offsets ≡ offsets_refusal w h n offsets or_else 13 when nothing_common w h n offsets
unfolding area_refusal offsets_refusal
refusal-split w h n offsets =
    let n13 : ℕ = 13 when nothing_common w h n offsets in
    let n12 : ℕ = 12 when some_outside offsets in
    let n9 : ℕ = 9 when wrong_length (2 * n) (length offsets) in
    let n6 : ℕ = 6 when bad_frames n in
    let n2 : ℕ = 2 when bad_size w h in
    ap (λ (m : ℕ). n2 or_else m) (ap (λ (m : ℕ). n6 or_else m) (or_else-assoc n9 n12 n13) ∙ or_else-assoc n6 (n9 or_else n12) n13)
    ∙ or_else-assoc n2 (n6 or_else n9 or_else n12) n13

-- a refusal whose number stands first
pub refused-before : (e : Refusal) (n m : ℕ) (a : Area) → number_of e ≡ n → Err (number_of e) ≡ answer_for (n or_else m) a
refused-before e zero m a is = absurd (number-nonzero e is)
refused-before e (suc n) m a is = ap Err is

-- What is known once no number but 13 can apply.
pub record OffsetsOk (w h n : ℕ) (offsets : List ℤ) : Type 0 where
  pub width : w ≤ 4096
  pub height : h ≤ 4096
  pub exact : length offsets ≡ 2 * n
  pub range : InRange offsets

pub offsets-ok : (w h n : ℕ) (offsets : List ℤ) → offsets_refusal w h n offsets ≡ 0 → OffsetsOk w h n offsets
unfolding offsets_refusal
offsets-ok w h n offsets e =
    let n12 : ℕ = 12 when some_outside offsets in
    let n9 : ℕ = 9 when wrong_length (2 * n) (length offsets) in
    let n6 : ℕ = 6 when bad_frames n in
    let p = or_else-no (2 when bad_size w h) (n6 or_else n9 or_else n12) e in
    let q = or_else-no n6 (n9 or_else n12) p.1 in
    let r = or_else-no n9 n12 q.1 in
    let k = size_ok w h p.0 in
    record {
      width = k.width;
      height = k.height;
      exact = length-is (2 * n) (length offsets) (when-no 9 (wrong_length (2 * n) (length offsets)) (omega arith) r.0);
      range = record { near = in-range offsets (when-no 12 (some_outside offsets) (omega arith) r.1) };
    }
