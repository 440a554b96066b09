-- When offsets tell of a turn (document 02, Paper 4), and the answer of the quadrants call.
use Rattle.std.specs.Prelude.{Bool, true, false, ◌||◌, List, [], ◌∷◌, ℕ, zero, suc, ltb, ℤ, nat_abs, ◌-ℤ◌, Result, Ok, Err}
use Rattle.rules.specs.declared.Offset.{Offset}

-- two numbers "differ by more than 1"
unfoldable pub apart : ℤ → ℤ → Bool
apart i j = ltb 1 (nat_abs (i -ℤ j))

-- two offsets do "on an axis"
unfoldable pub differing : Offset → Offset → Bool
differing m n = apart m.dx n.dx || apart m.dy n.dy

-- an offset does from one of a list
unfoldable pub differing_from : Offset → List Offset → Bool
differing_from m [] = false
differing_from m (n ∷ ns) = differing m n || differing_from m ns

-- "turned" exactly when "two of them differ", any two of a list
unfoldable pub turned : List Offset → Bool
turned [] = false
turned (m ∷ ms) = differing_from m ms || turned ms
