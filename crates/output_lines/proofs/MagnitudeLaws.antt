-- The text of a signed 32-bit number, from its size.
use mathlib.Core.Path.{◌≡◌, refl, sym, ap, ◌∙◌}
use mathlib.Core.Bool.{true, false, true≢false}
use mathlib.Core.List.{[], ◌∷◌, ◌++◌}
use Prim.Native.Nat.{ℕ, ◌<◌}
use native.Mathlib.Omega.{arith}
use lib.IntN.{ℤ, pos, negsuc, nat_abs}
use lib.Signed.{lt_z}
use mir.Syntax.{w32}
use mir.Val.{SFits, to_z, of_z}
use mir.Facts.{to_z-of_z}
use borrow.Author.Tests.{ltb-true}
use Rattle.text.specs.Digits.{digits}
use Rattle.output_lines.specs.Lines.{signed}

never-below : (n : ℕ) → lt_z (pos n) (pos 0) ≡ true → ⊥
never-below n t = let l : n < 0 = ltb-true n 0 t in omega arith

signed_above : (z : ℤ) → lt_z z (pos 0) ≡ false → signed z ≡ digits (nat_abs z)
unfolding signed
signed_above (pos n) t = refl
signed_above (negsuc n) t = absurd (true≢false t)

signed_below : (z : ℤ) → lt_z z (pos 0) ≡ true → signed z ≡ (45 ∷ []) ++ digits (nat_abs z)
unfolding signed
signed_below (pos n) t = absurd (never-below n t)
signed_below (negsuc n) t = refl

module _ (z : ℤ) (fits : SFits w32 z) where
  -- as the machine reads it back
  pub read32 : to_z w32 (of_z w32 z) ≡ z
  read32 = to_z-of_z fits

  -- its text, from its size m
  pub text-above : lt_z (to_z w32 (of_z w32 z)) (pos 0) ≡ false → (m : ℕ) → m ≡ nat_abs (to_z w32 (of_z w32 z)) → signed z ≡ digits m
  text-above t m e = ap signed (sym read32) ∙ signed_above (to_z w32 (of_z w32 z)) t ∙ rw e

  pub text-below : lt_z (to_z w32 (of_z w32 z)) (pos 0) ≡ true → (m : ℕ) → m ≡ nat_abs (to_z w32 (of_z w32 z)) → signed z ≡ (45 ∷ []) ++ digits m
  text-below t m e = ap signed (sym read32) ∙ signed_below (to_z w32 (of_z w32 z)) t ∙ rw e
