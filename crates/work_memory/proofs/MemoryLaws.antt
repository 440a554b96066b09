-- Laws of the shortest side that s halvings allow, and of a bitmap's length.
use mathlib.Core.Path.{◌≡◌, sym, ◌∙◌}
use Prim.Native.Nat.{ℕ, ◌+◌, ◌*◌, ◌%◌, ◌^◌, ◌≤◌}
use native.Mathlib.Nat.{mul_comm, mul-le-mul}
use native.Mathlib.Omega.{arith}
use lib.Pow.{shl_exact, pow-add}
use Rattle.rules.specs.Bitmaps.{row_words}

-- the shift loses no bit
pub shortest-side : (s : ℕ) → s ≤ 8 → 4 * 2 ^ s % 2 ^ 64 ≡ 2 ^ (s + 2)
shortest-side s l = shl_exact {a = 4} 3 s 64 (omega arith) (omega arith) ∙ mul_comm 4 (2 ^ s) ∙ sym (pow-add 2 s 2)

-- a bitmap's words
pub bitmap-fit : (w h : ℕ) → w ≤ 4096 → h ≤ 4096 → row_words w * h ≤ 262144
unfolding row_words
bitmap-fit w h v u = let n : row_words w ≤ 64 = omega arith in mul-le-mul n u
