-- Widened to 64 bits the sum fits and is not negative, so that the machine reads it back as it is.
use Rattle.std.proofs.Common.{◌≡◌, ◌∙◌, ap}
use lib.IntN.{ℤ, pos, nat_abs, ◌+ℤ◌}
use mir.Syntax.{w32, w64}
use mir.Val.{SFits, to_z, of_z}
use mir.Facts.{to_z-of_z}
use Rattle.words.specs.Rows.{bias, bias_of}
use Rattle.words.proofs.MoveLaws.{wide-sum, bias-fits}
use Rattle.words.proofs.biased.Goals as goal

-- the sum as the machine reads it back
read : (d : ℤ) → SFits w32 d → to_z w64 (of_z w64 (to_z w64 (of_z w64 (to_z w32 (of_z w32 d))) +ℤ pos bias)) ≡ pos (bias_of d)
read d b = ap (λ (z : ℤ). to_z w64 (of_z w64 z)) (wide-sum d b) ∙ to_z-of_z (bias-fits d b)

pub returns : goal.returns
returns c = ap nat_abs (read c.args.d c.ranges.d)
