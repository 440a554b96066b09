-- Laws of the blink row: what an accepted call knows, and what the companion's answer tells.
use Rattle.rules.specs.Answers.{answer_for}
use Rattle.std.specs.Prelude.{Ok, Err}
use mathlib.Core.Path.{◌≡◌, refl, ap₂}
use mathlib.Core.Bool.{Bool, ◌||◌, not, cond}
use mathlib.Core.List.{List, []}
use Prim.Native.Nat.{ℕ, zero, suc, ◌+◌, ◌*◌, ◌-◌, ◌≤◌, ◌<◌}
use native.Mathlib.Nat.{mul_assoc, add-sub_cancel_left}
use native.Mathlib.Omega.{arith}
use lib.Dec.{ltb}
use lib.ListN.{length, take, drop}
use borrow.Author.Tests.{ltb-true, not-false}
use Rattle.rules.specs.Refusals.{◌when◌, ◌or_else◌, bad_size, wrong_length, raster_length}
use Rattle.rules.specs.Accepted.{SizeOk}
use Rattle.rules.proofs.RefusalLaws.{size_ok, when-no, or_else-no, or_no, length-is}
use Rattle.rules.proofs.FrameLaws.{row_fits}
use Rattle.rules.specs.Parts.{part_or, Place, place_from}
use Rattle.blink.specs.Blink.{blink_refusal, row_start, raster_row, BlinkCall, blink_answer}

-- What an accepted call knows.
pub record BlinkOk (w h y first second : ℕ) : Type 0 where
  pub size : SizeOk w h
  pub exact1 : first ≡ 3 * (w * h)
  pub exact2 : second ≡ 3 * (w * h)
  pub inside : row_start w y + 3 * w ≤ 3 * (w * h)

row_inside : (w h y : ℕ) → y < h → row_start w y + 3 * w ≤ 3 * (w * h)
unfolding row_start
row_inside w h y l = let a = row_fits (3 * w) h y l in let b = mul_assoc 3 w h in omega arith

pub blink-ok : (w h y first second : ℕ) → blink_refusal w h y first second ≡ 0 → BlinkOk w h y first second
unfolding blink_refusal
blink-ok w h y first second e =
    let c1 : Bool = wrong_length (raster_length w h) first in
    let c2 : Bool = wrong_length (raster_length w h) second in
    let n14 : ℕ = 14 when not (ltb y h) in
    let n9 : ℕ = 9 when (c1 || c2) in
    let p = or_else-no (2 when bad_size w h) (n9 or_else n14) e in
    let q = or_else-no n9 n14 p.1 in
    let r = or_no c1 c2 (when-no 9 (c1 || c2) (omega arith) q.0) in
    let s = not-false (ltb y h) (when-no 14 (not (ltb y h)) (omega arith) q.1) in
    record {
      size = size_ok w h p.0;
      exact1 = length-is (raster_length w h) first r.0;
      exact2 = length-is (raster_length w h) second r.1;
      inside = row_inside w h y (ltb-true y h s);
    }

pub row-refused : (n start : ℕ) → (n ≡ 0 → ⊥) → Err n ≡ answer_for n start
row-refused zero start l = absurd (l refl)
row-refused (suc n) start l = refl

at-start : (n start v : ℕ) → answer_for n start ≡ Ok v → (n ≡ 0) × (v ≡ start)
at-start zero start v e = (refl, cc)
at-start (suc n) start v e = absurd (let z : ◌≡◌ {A = ℕ} 0 1 = cc in omega arith)

empty-part : (n start m : ℕ) (part : List ℕ) → answer_for n start ≡ Err m → [] ≡ part_or n part
empty-part zero start m part e = absurd (let z : ◌≡◌ {A = ℕ} 0 1 = cc in omega arith)
empty-part (suc n) start m part e = refl

not-refused : (n start m : ℕ) → n ≡ 0 → answer_for n start ≡ Err m → ⊥
not-refused zero start m z e = let d : ◌≡◌ {A = ℕ} 0 1 = cc in omega arith
not-refused (suc n) start m z e = omega arith

-- What the companion's answer tells of the part.
module _ (w h y : ℕ) (other : Bool) (first : List ℕ) (place1 : Place) (second : List ℕ) (place2 : Place) where
  number : ℕ
  number = blink_refusal w h y (length first) (length second)

  -- an empty part, wherever it lies
  pub part-refused : (m : ℕ) (place : Place) → blink_answer w h y first second ≡ Err m → BlinkCall w h y other first place1 second place2 [] place
  unfolding number
  part-refused m place e = record {
    holds = empty-part number (row_start w y) m (raster_row w y (cond other second first)) e;
    lies = λ z. absurd (not-refused number (row_start w y) m z e);
  }

  pub started : (v : ℕ) → blink_answer w h y first second ≡ Ok v → (blink_refusal w h y (length first) (length second) ≡ 0) × (v ≡ row_start w y)
  started v e = at-start (blink_refusal w h y (length first) (length second)) (row_start w y) v e

  -- the part of the chosen raster
  pub part-is : (v : ℕ) (chosen : List ℕ) (place : Place) → blink_answer w h y first second ≡ Ok v → chosen ≡ cond other second first → place ≡ cond other place2 place1
      → BlinkCall w h y other first place1 second place2 (take (v + 3 * w - v) (drop v chosen)) (place_from v place)
  part-is v chosen place e d p = record {
    holds = let s = started v e in rw (s.0, s.1, add-sub_cancel_left (row_start w y) (3 * w), d);
    lies = λ z. ap₂ place_from (started v e).1 p;
  }
