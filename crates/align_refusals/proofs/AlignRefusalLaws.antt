-- Laws of the numbers that stand first, and of the walk over the percentiles.
use mathlib.Core.Path.{◌≡◌, refl, ap}
use mathlib.Core.Bool.{Bool, ◌||◌}
use mathlib.Core.List.{List, [], ◌∷◌}
use Prim.Native.Nat.{ℕ, zero, suc}
use native.Mathlib.Omega.{arith}
use Rattle.std.specs.List.{list_any}
use Rattle.rules.specs.Refusals.{◌when◌, ◌or_else◌, bad_size, bad_halvings, too_small, shape_refusal, bad_frames, bad_reference, bad_percentile, some_bad_percentile}

-- A number k of three conditions, the first of a call's: where it is not 0 it is the call's, else the rest is.
first-of-three : (k a b c rest : ℕ) → k ≡ a or_else b or_else c → (k ≡ 0 → ⊥) → k ≡ a or_else b or_else c or_else rest
first-of-three k zero zero zero rest e l = absurd (l e)
first-of-three k zero zero (suc c) rest e l = e
first-of-three k zero (suc b) c rest e l = e
first-of-three k (suc a) b c rest e l = e

none-of-three : (k a b c rest : ℕ) → k ≡ a or_else b or_else c → k ≡ 0 → a or_else b or_else c or_else rest ≡ rest
none-of-three k zero zero zero rest e z = refl
none-of-three k zero zero (suc c) rest e z = absurd (omega arith)
none-of-three k zero (suc b) c rest e z = absurd (omega arith)
none-of-three k (suc a) b c rest e z = absurd (omega arith)

-- The shape's number.
pub shape-first : (w h s k rest : ℕ) → k ≡ shape_refusal w h s → (k ≡ 0 → ⊥)
    → k ≡ 2 when bad_size w h or_else 3 when bad_halvings s or_else 4 when too_small w h s or_else rest
shape-first w h s k = first-of-three k (2 when bad_size w h) (3 when bad_halvings s) (4 when too_small w h s)

pub shape-pass : (w h s k : ℕ) → k ≡ shape_refusal w h s → k ≡ 0 → (rest : ℕ)
    → 2 when bad_size w h or_else 3 when bad_halvings s or_else 4 when too_small w h s or_else rest ≡ rest
shape-pass w h s k e z rest = none-of-three k (2 when bad_size w h) (3 when bad_halvings s) (4 when too_small w h s) rest e z

-- The number of the exclusion, the frames and the reference.
pub frames-first : (excluded n r k rest : ℕ) → k ≡ excluded or_else 6 when bad_frames n or_else 7 when bad_reference n r → (k ≡ 0 → ⊥)
    → k ≡ excluded or_else 6 when bad_frames n or_else 7 when bad_reference n r or_else rest
frames-first excluded n r k = first-of-three k excluded (6 when bad_frames n) (7 when bad_reference n r)

pub frames-pass : (excluded n r k : ℕ) → k ≡ excluded or_else 6 when bad_frames n or_else 7 when bad_reference n r → k ≡ 0 → (rest : ℕ)
    → excluded or_else 6 when bad_frames n or_else 7 when bad_reference n r or_else rest ≡ rest
frames-pass excluded n r k e z rest = none-of-three k excluded (6 when bad_frames n) (7 when bad_reference n r) rest e z

-- whether one is bad, by std's word
pub some-bad-any : (ps : List ℕ) → some_bad_percentile ps ≡ list_any bad_percentile ps
unfolding some_bad_percentile
some-bad-any [] = refl
some-bad-any (p ∷ ps) = ap (λ (t : Bool). bad_percentile p || t) (some-bad-any ps)
