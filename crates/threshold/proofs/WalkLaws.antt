-- Laws of the walk over the counts, whose running count is a sum.
use mathlib.Core.Path.{◌≡◌, ap}
use mathlib.Core.Logic.{⊎_elim}
use Prim.Native.Nat.{ℕ, ◌+◌, ◌*◌, ◌≤◌, ◌<◌}
use native.Mathlib.Omega.{arith}
use Rattle.rules.specs.Sums.{sum}
use Rattle.rules.proofs.SumLaws.{order, sum_more, sum-part}
use Rattle.histogram.specs.Counts.{max_pixels}

-- the next running count, and its bound
pub running_more : (f : ℕ → ℕ) (v : ℕ) → v ≤ 255 → sum 256 f ≤ max_pixels
    → (sum v f + f v ≡ sum (v + 1) f) × (sum v f + f v ≤ max_pixels)
running_more f v l b = let a = sum_more v f in let c = sum-part (v + 1) 256 f (omega arith) in omega arith

-- a value that does not reach the goal is not the last
pub not_last : (f : ℕ → ℕ) (v goal : ℕ) → v ≤ 255 → goal ≤ 100 * sum 256 f → 100 * sum (v + 1) f < goal → v < 255
not_last f v goal l reach short = ⊎_elim (λ (k : v < 255). k) last (order v 255)
  where
    last : 255 ≤ v → v < 255
    last k = let e : sum (v + 1) f ≡ sum 256 f = ap (λ (n : ℕ). sum n f) (let d : v + 1 ≡ 256 = omega arith in d) in omega arith
