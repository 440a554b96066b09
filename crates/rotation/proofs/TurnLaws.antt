-- Laws of the tests, of two numbers and of four offsets.
use mathlib.Core.Path.{◌≡◌, refl, ap₂}
use mathlib.Core.Bool.{Bool, true, false, ◌||◌}
use mathlib.Core.List.{[], ◌∷◌}
use Prim.Native.Nat.{ℕ, zero, suc, ◌≤◌}
use native.Mathlib.Omega.{arith}
use lib.IntN.{ℤ, nat_abs}
use mir.Syntax.{w32}
use mir.Val.{to_z, of_z}
use Rattle.rules.specs.Limits.{max_offset}
use Rattle.rules.specs.declared.Offset.{Offset}
use Rattle.rules.proofs.SignedLaws.{bits_are}
use Rattle.rotation.specs.Turns.{apart, differing, differing_from, turned}

-- numbers read from their bits
pub apart-bits : (a b : ℤ) → nat_abs a ≤ max_offset → nat_abs b ≤ max_offset → apart (to_z w32 (of_z w32 a)) (to_z w32 (of_z w32 b)) ≡ apart a b
apart-bits a b k l = ap₂ apart (bits_are a (omega arith)) (bits_are b (omega arith))

-- the six pairs of four
six : (ab ac ad bc bd cd : Bool)
    → (ab || ac || ad) || (bc || bd) || cd ≡ (ab || (ac || (ad || false))) || ((bc || (bd || false)) || ((cd || false) || (false || false)))
six true ac ad bc bd cd = refl
six false true ad bc bd cd = refl
six false false true bc bd cd = refl
six false false false true bd cd = refl
six false false false false true cd = refl
six false false false false false true = refl
six false false false false false false = refl

pub four-turned : (a b c d : Offset)
    → (differing a b || differing a c || differing a d) || (differing b c || differing b d) || differing c d ≡ turned (a ∷ b ∷ c ∷ d ∷ [])
unfolding turned differing_from
four-turned a b c d = six (differing a b) (differing a c) (differing a d) (differing b c) (differing b d) (differing c d)
