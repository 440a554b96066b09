-- What a refused file leaves.
use mathlib.Core.Path.{◌≡◌, refl}
use mathlib.Core.List.{List, []}
use Prim.Native.Nat.{ℕ, zero, suc}
use Rattle.rules.specs.Parts.{part_or}

-- A refused file: the part is empty.
pub part-refused : (n : ℕ) (part : List ℕ) → (n ≡ 0 → ⊥) → [] ≡ part_or n part
part-refused zero part l = absurd (l refl)
part-refused (suc n) part l = refl
