-- The step of a place, and a coordinate of a candidate.
use mathlib.Core.Path.{◌≡◌, ap, ◌∙◌}
use Prim.Native.Nat.{ℕ, zero, suc, ◌≤◌}
use native.Mathlib.Omega.{arith}
use lib.IntN.{ℤ, nat_abs, ◌+ℤ◌}
use mir.Syntax.{w32}
use mir.Val.{to_z, of_z}
use Rattle.rules.specs.Limits.{max_centre}
use Rattle.rules.specs.Levels.{step_of}
use Rattle.rules.proofs.SignedLaws.{sum_is}

pub step-near : (i : ℕ) → nat_abs (step_of i) ≤ 1
step-near zero = omega arith
step-near (suc zero) = omega arith
step-near (suc (suc i)) = omega arith

-- a coordinate of a candidate, from the centre's and the machine's step
pub coordinate-is : (a z : ℤ) (i : ℕ) → nat_abs a ≤ max_centre → z ≡ step_of i
    → to_z w32 (of_z w32 (to_z w32 (of_z w32 a) +ℤ to_z w32 (of_z w32 z))) ≡ a +ℤ step_of i
coordinate-is a z i near e =
    let small : nat_abs z ≤ 2000000 = rw e (let s = step-near i in omega arith) in
    sum_is a z (omega arith) small ∙ ap (λ (s : ℤ). a +ℤ s) e
