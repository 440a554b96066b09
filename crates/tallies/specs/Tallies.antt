-- Two counts of one pass in one number.
use Rattle.std.specs.Prelude.{ℕ, ◌+◌, ◌*◌}
use Rattle.tallies.specs.declared.Words.{Words}
use Rattle.words.specs.Rows.{WordOf}

-- what a pixel that is compared adds, 2 ^ 32: the count of differences stays below it
abbrev pub compared_unit : ℕ
compared_unit = 4294967296

-- a count of differences and the number of pixels compared
abbrev pub tally : ℕ → ℕ → ℕ
tally count compared = count + compared_unit * compared

-- what pixel x adds to a tally
abbrev pub both : (ℕ → ℕ) → (ℕ → ℕ) → ℕ → ℕ
both differs kept x = tally (differs x) (kept x)

-- word k of each
abbrev pub WordsOf : (ℕ → ℕ) → (ℕ → ℕ) → ℕ → Words → Type 0
WordsOf differs kept k v = WordOf differs k v.differing × WordOf kept k v.kept
