-- A number of the settings line together with the 32 after it, as the parser reads it.
use Rattle.std.specs.Prelude.{cond, Option, Some, None, List, ℕ, ◌+◌, eqb, get_or, drop}
use Rattle.text.specs.declared.Number.{Number}
use Rattle.text.specs.Digits.{number_of}

unfoldable pub with_space : List ℕ → ℕ → Option Number → Option Number
with_space line at None = None
with_space line at (Some n) = cond (eqb (get_or line (at + n.count) 0) 32) (Some (record { value = n.value; count = n.count + 1 })) None

-- the number at place `at`, and how many bytes it takes with its 32
unfoldable pub spaced_number : List ℕ → ℕ → Option Number
spaced_number line at = with_space line at (number_of (drop at line))
