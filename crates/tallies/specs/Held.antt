-- A running count of 1 bits.
use Rattle.std.specs.Prelude.{ℕ, ◌+◌, ◌*◌}
use Rattle.rules.specs.Limits.{word_bits}
use Rattle.rules.specs.Sums.{sum}
use Rattle.rules.specs.Bitmaps.{bit}
use Rattle.tallies.specs.declared.counter.Counter.{Counter}

-- the 1 bits that a counter holds: a bit of `ones` stands for one, of `twos` for two, of `fours` for four, and `eights` is the number of eights
abbrev pub held : Counter → ℕ
held c = sum word_bits (bit c.ones) + 2 * sum word_bits (bit c.twos) + 4 * sum word_bits (bit c.fours) + 8 * c.eights

-- far more eights than a frame has, and few enough for one word more
abbrev pub most_eights : ℕ
most_eights = 4000000000
