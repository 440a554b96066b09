-- Sizes and sides of accepted calls are far below the limit of 32 bits.
use mathlib.Core.Path.{◌≡◌, sym, ◌∙◌}
use mathlib.Core.Bool.{Bool, true, false, cond}
use mathlib.Core.List.{List}
use Prim.Native.Nat.{ℕ, zero, suc, ◌+◌, ◌*◌, ◌-◌, ◌≤◌, ◌<◌}
use native.Mathlib.Omega.{arith}
use Rattle.std.proofs.Common.{Option, Some, None}
use lib.IntN.{ℤ, pos, nat_abs, ◌+ℤ◌}
use lib.Signed.{lt_z}
use Rattle.rules.specs.Refusals.{◌when◌, bad_size, wrong_length, raster_length}
use Rattle.rules.proofs.RefusalLaws.{size_ok, or_else-no}
use Rattle.rules.proofs.OffsetLaws.{abs-add}
use Rattle.ppm_read.specs.declared.Size.{Size}
use Rattle.p6_header.specs.declared.Header.{Header}
use Rattle.p6_header.specs.P6Header.{header_of}
use Rattle.ppm_read.specs.P6.{header_refusal, p6_refusal, size_in}
use Rattle.area.specs.declared.Area.{Area}
use Rattle.area.specs.Common.{dx_of, dy_of, larger, smaller, low_side, high_side, nothing_common, area_refusal, common_area}
use Rattle.area.specs.Sides.{offsets_refusal}
use Rattle.area.proofs.SideLaws.{offsets-ok, refusal-split}

pub record SmallSize (size : Size) : Type 0 where
  pub w : size.w ≤ 4096
  pub h : size.h ≤ 4096

header-small : (header : Option Header) (n : ℕ) → header_refusal header n ≡ 0 → SmallSize (size_in header)
unfolding header_refusal size_in
header-small None n e = absurd (omega arith)
header-small (Some header) n e =
    let first = 2 when bad_size header.w header.h in
    let k = size_ok header.w header.h (or_else-no first (9 when wrong_length (raster_length header.w header.h) (n - header.start)) e).0 in
    record { w = k.width; h = k.height }

pub size_small : (file : List ℕ) → p6_refusal file ≡ 0 → SmallSize (size_in (header_of file))
unfolding p6_refusal
size_small file e = header-small (header_of file) _ e

picked-le : (t : Bool) (a b : ℤ) (m : ℕ) → nat_abs a ≤ m → nat_abs b ≤ m → nat_abs (cond t b a) ≤ m
picked-le true a b m l r = r
picked-le false a b m l r = l

low-le : (n : ℕ) (d : ℕ → ℤ) → ((k : ℕ) → k < n → nat_abs (d k) ≤ 32768) → nat_abs (low_side n d) ≤ 32768
unfolding low_side larger
low-le zero d near = omega arith
low-le (suc n) d near =
    picked-le (lt_z (low_side n d) (d n)) (low_side n d) (d n) 32768 (low-le n d (λ k l. near k (omega arith))) (near n (omega arith))

high_le : (side n : ℕ) (d : ℕ → ℤ) → ((k : ℕ) → k < n → nat_abs (d k) ≤ 32768) → nat_abs (high_side side n d) ≤ side + 32768
unfolding high_side smaller
high_le side zero d near = omega arith
high_le side (suc n) d near =
    picked-le (lt_z (pos side +ℤ d n) (high_side side n d)) (high_side side n d) (pos side +ℤ d n) (side + 32768)
    (high_le side n d (λ k l. near k (omega arith))) (omega (arith, abs-add (pos side) (d n), near n (omega arith)))

pub record SmallArea (area : Area) : Type 0 where
  pub left : area.left ≤ 36864
  pub right : area.right ≤ 36864
  pub top : area.top ≤ 36864
  pub bottom : area.bottom ≤ 36864

pub area_small : (w h n : ℕ) (offsets : List ℤ) → area_refusal w h n offsets ≡ 0 → SmallArea (common_area w h n offsets)
unfolding common_area
area_small w h n offsets e =
    let k = offsets-ok w h n offsets (or_else-no (offsets_refusal w h n offsets) (13 when nothing_common w h n offsets) (sym (refusal-split w h n offsets) ∙ e)).0 in
    let columns : (j : ℕ) → j < n → nat_abs (dx_of offsets j) ≤ 32768 = λ j l. k.range.near (2 * j) (omega (arith, k.exact)) in
    let lines : (j : ℕ) → j < n → nat_abs (dy_of offsets j) ≤ 32768 = λ j l. k.range.near (2 * j + 1) (omega (arith, k.exact)) in
    record {
      left = omega (arith, low-le n (dx_of offsets) columns);
      right = omega (arith, high_le w n (dx_of offsets) columns, k.width);
      top = omega (arith, low-le n (dy_of offsets) lines);
      bottom = omega (arith, high_le h n (dy_of offsets) lines, k.height);
    }
