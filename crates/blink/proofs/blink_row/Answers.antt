-- The companion's answer tells where the row begins, or that the part is empty.
use Rattle.std.specs.Prelude.{Ok}
use mathlib.Core.Path.{◌≡◌, sym}
use mathlib.Core.Bool.{Bool}
use mathlib.Core.List.{List}
use Prim.Native.Nat.{ℕ}
use native.Mathlib.Omega.{arith}
use lib.ListN.{length}
use Rattle.rules.specs.Parts.{Place}
use Rattle.blink.specs.Blink.{row_start, blink_answer}
use Rattle.blink.proofs.BlinkLaws.{BlinkOk, blink-ok, part-refused, started, part-is}
use Rattle.blink.proofs.blink_row.Goals as goal

-- what an accepted call knows: where the row begins, and its sizes
accepted : (w h y : ℕ) (other : Bool) (first : List ℕ) (place1 : Place) (second : List ℕ) (place2 : Place) (v : ℕ) → blink_answer w h y first second ≡ Ok v
    → (v ≡ row_start w y) × BlinkOk w h y (length first) (length second)
accepted w h y other first place1 second place2 v e =
    let s = started w h y other first place1 second place2 v e in
    (s.1, blink-ok w h y (length first) (length second) s.0)

pub returns-in_default : goal.returns-in_default
returns-in_default c =
    let a = c.args in
    part-refused a.w a.h a.y a.other a.first.now a.first.ref_ptr a.second.now a.second.ref_ptr _ _ (sym c.in_default.ensures)

pub overflow_mul-to : goal.overflow_mul-to
overflow_mul-to c =
    let a = c.args in
    omega (arith, accepted a.w a.h a.y a.other a.first.now a.first.ref_ptr a.second.now a.second.ref_ptr _ (sym c.in-Ok.ensures))

pub overflow_add-to : goal.overflow_add-to
overflow_add-to c =
    let a = c.args in
    omega (arith, accepted a.w a.h a.y a.other a.first.now a.first.ref_ptr a.second.now a.second.ref_ptr _ (sym c.in-Ok.ensures))

pub slice_bounds-result-end-then-other : goal.slice_bounds-result-end-then-other
slice_bounds-result-end-then-other c =
    let a = c.args in
    omega (arith, accepted a.w a.h a.y a.other a.first.now a.first.ref_ptr a.second.now a.second.ref_ptr _ (sym c.in-Ok.ensures))

pub slice_bounds-result-end-else-other : goal.slice_bounds-result-end-else-other
slice_bounds-result-end-else-other c =
    let a = c.args in
    omega (arith, accepted a.w a.h a.y a.other a.first.now a.first.ref_ptr a.second.now a.second.ref_ptr _ (sym c.in-Ok.ensures))

pub returns-then-other : goal.returns-then-other
returns-then-other c =
    let a = c.args in
    part-is a.w a.h a.y a.other a.first.now a.first.ref_ptr a.second.now a.second.ref_ptr _ a.second.now a.second.ref_ptr (sym c.in-Ok.ensures) (rw c.if-other.true)
    (rw c.if-other.true)

pub returns-else-other : goal.returns-else-other
returns-else-other c =
    let a = c.args in
    part-is a.w a.h a.y a.other a.first.now a.first.ref_ptr a.second.now a.second.ref_ptr _ a.first.now a.first.ref_ptr (sym c.in-Ok.ensures) (rw c.if-other.false)
    (rw c.if-other.false)
