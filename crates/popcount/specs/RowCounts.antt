-- Counts over a row's words.
use Rattle.std.specs.Prelude.{◌≡◌, ℕ, ◌+◌, ◌*◌}
use Rattle.rules.specs.Limits.{word_bits}
use Rattle.rules.specs.Sums.{sum}

-- the number is what the words from `first` up to `end` add to the sum of f over a row's pixels
abbrev pub Adds : (ℕ → ℕ) → ℕ → ℕ → ℕ → Type 0
Adds f first end number = sum (first * word_bits) f + number ≡ sum (end * word_bits) f
