-- Numbers at the nine candidates.
use Rattle.std.specs.Prelude.{ℕ, ◌+◌, ◌*◌}
use Rattle.rules.specs.Levels.{candidate_at}
use Rattle.rules.specs.declared.Offset.{Offset}

-- the number at candidate k around a centre
abbrev pub nine_of : (Offset → ℕ) → Offset → ℕ → ℕ
nine_of number centre k = number (candidate_at centre k)

-- the same in column i of the candidates, whose dx is one: candidate j of its three
abbrev pub column_of : (Offset → ℕ) → Offset → ℕ → ℕ → ℕ
column_of number centre i j = nine_of number centre (3 * i + j)
