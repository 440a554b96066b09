-- Sums of signed 32-bit numbers that stay far from their limits: the machine's sum is the sum.
use mathlib.Core.Path.{◌≡◌, ap₂, ◌∙◌}
use Prim.Native.Nat.{◌≤◌}
use native.Mathlib.Nat.{le_refl}
use native.Mathlib.Omega.{arith}
use lib.IntN.{ℤ, pos, negsuc, nat_abs, neg_ℤ, ◌+ℤ◌, ◌-ℤ◌}
use lib.Signed.{mag}
use mir.Syntax.{w32}
use mir.Val.{SFits, to_z, of_z}
use mir.Facts.{to_z-of_z}
use Rattle.rules.proofs.OffsetLaws.{abs-add, abs_neg}

mag-le : (z : ℤ) → mag z ≤ nat_abs z
mag-le (pos n) = le_refl n
mag-le (negsuc n) = omega arith

pub small-fits : (z : ℤ) → nat_abs z ≤ 4000000 → SFits w32 z
small-fits z l = record { sfits = let m = mag-le z in omega arith }

pub sum_fits : (a b : ℤ) → nat_abs a ≤ 2000000 → nat_abs b ≤ 2000000 → SFits w32 (a +ℤ b)
sum_fits a b k l = small-fits (a +ℤ b) (let m = abs-add a b in omega arith)

-- a signed local is read back from its bits
pub bits_are : (z : ℤ) → nat_abs z ≤ 4000000 → to_z w32 (of_z w32 z) ≡ z
bits_are z l = to_z-of_z (small-fits z l)

pub sum_is : (a b : ℤ) → nat_abs a ≤ 2000000 → nat_abs b ≤ 2000000
    → to_z w32 (of_z w32 (to_z w32 (of_z w32 a) +ℤ to_z w32 (of_z w32 b))) ≡ a +ℤ b
sum_is a b k l =
    ap₂ (λ (x y : ℤ). to_z w32 (of_z w32 (x +ℤ y))) (bits_are a (omega arith)) (bits_are b (omega arith))
    ∙ to_z-of_z (sum_fits a b k l)

pub sum-bits-fit : (a b : ℤ) → nat_abs a ≤ 2000000 → nat_abs b ≤ 2000000 → SFits w32 (to_z w32 (of_z w32 a) +ℤ to_z w32 (of_z w32 b))
sum-bits-fit a b k l = rw (bits_are a (omega arith), bits_are b (omega arith)) (sum_fits a b k l)

-- the same of a difference
pub difference-fits : (a b : ℤ) → nat_abs a ≤ 2000000 → nat_abs b ≤ 2000000 → SFits w32 (a -ℤ b)
difference-fits a b k l = sum_fits a (neg_ℤ b) k (rw (abs_neg b) l)

pub difference-is : (a b : ℤ) → nat_abs a ≤ 2000000 → nat_abs b ≤ 2000000
    → to_z w32 (of_z w32 (to_z w32 (of_z w32 a) -ℤ to_z w32 (of_z w32 b))) ≡ a -ℤ b
difference-is a b k l =
    ap₂ (λ (x y : ℤ). to_z w32 (of_z w32 (x -ℤ y))) (bits_are a (omega arith)) (bits_are b (omega arith))
    ∙ to_z-of_z (difference-fits a b k l)

pub difference-bits-fit : (a b : ℤ) → nat_abs a ≤ 2000000 → nat_abs b ≤ 2000000 → SFits w32 (to_z w32 (of_z w32 a) -ℤ to_z w32 (of_z w32 b))
difference-bits-fit a b k l = rw (bits_are a (omega arith), bits_are b (omega arith)) (difference-fits a b k l)
