-- What the table of bit counts has to hold.
use Rattle.std.specs.Prelude.{◌≡◌, List, ℕ, ◌<◌, get_or}
use Rattle.rules.specs.Sums.{sum}
use Rattle.rules.specs.Bitmaps.{bit}

-- the entry of each byte is the number of its 1 bits
pub record CountsBits (table : List ℕ) : Type 0 where
  pub entry : (b : ℕ) → b < 256 → get_or table b 0 ≡ sum 8 (bit b)
