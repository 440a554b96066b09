-- The settings line `s T P` of the program `bracket`.
use Rattle.std.specs.Prelude.{not, cond, Option, Some, None, List, ℕ, ◌+◌, eqb, length, get_or, take, drop}
use Rattle.text.specs.declared.Number.{Number}
use Rattle.text.specs.Digits.{leading, number_of}
use Rattle.settings_line.specs.declared.Settings.{Settings}

-- "The settings line ends at a byte 10 or at the end of input."
unfoldable pub line_of : List ℕ → List ℕ
line_of input = take (leading (λ b. not (eqb b 10)) input) input

-- a number at place `at` "with a 32" after it, and what follows from its value and from the place after the 32
unfoldable pub spaced : List ℕ → ℕ → Option Number → (ℕ → ℕ → Option Settings) → Option Settings
spaced line at None next = None
spaced line at (Some n) next = cond (eqb (get_or line (at + n.count) 0) 32) (next n.value (at + n.count + 1)) None

-- a number at place `at` that ends the line
unfoldable pub last : List ℕ → ℕ → Option Number → (ℕ → Option Settings) → Option Settings
last line at None next = None
last line at (Some n) next = cond (eqb (at + n.count) (length line)) (next n.value) None

-- "three numbers of one to nine digits with a 32 between"
unfoldable pub numbers_of : List ℕ → Option Settings
numbers_of line =
    spaced line 0 (number_of line) (λ s at1.
    spaced line at1 (number_of (drop at1 line)) (λ tolerance at2.
    last line at2 (number_of (drop at2 line)) (λ percentile. Some (record { s = s; tolerance = tolerance; percentile = percentile }))))

unfoldable pub settings_of : List ℕ → Option Settings
settings_of input = numbers_of (line_of input)
