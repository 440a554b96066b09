-- Blank sky (document 02, Paper 1): "On haze all nine counts are equal and the old order drives the offset to its corner. The pair and series calls now
-- prefer the least move". Where the nine counts of each level are equal, a pair stays where it is by the least move, and goes to the corner in Ward's order.
-- `BlankSeries` of `reexposure` has it for whole series.
use Rattle.std.specs.Prelude.{◌≡◌, List, ℕ, suc, ◌+◌, ◌*◌, ◌-◌, ◌^◌, ◌<◌, pos, neg_ℤ, get_or, Result, Ok}
use Rattle.rules.specs.declared.Offset.{Offset}
use Rattle.rules.specs.declared.Setup.{Setup}
use Rattle.rules.specs.Levels.{still, ward_order, least_move_order}
use Rattle.rules.specs.Calls.{pair_number, PairCall}

-- of the counts of n levels, nine a level: those of each level are equal
abbrev pub Equal : ℕ → List ℕ → Type 0
Equal n counts = (k j : ℕ) → k < n → j < 9 → get_or counts (9 * k + j) 0 ≡ get_or counts (9 * k) 0

-- −(2^(s+1)−1) on both axes
abbrev pub corner : ℕ → Offset
corner s = record { dx = neg_ℤ (pos (2 ^ suc s - 1)); dy = neg_ℤ (pos (2 ^ suc s - 1)) }

-- What a pair call that was accepted answers where the counts that it has written are equal, for any two rasters and any setup (proved in proofs/SkyLaws.antt as `blank-sky`).
pub record BlankSky : Type 0 where
  pub least_move : (S : Setup) (first second counts counts' compared compared' grey grey' words words' : List ℕ) (r : Result Offset ℕ) → pair_number S first second counts compared grey words ≡ 0
      → PairCall least_move_order S first second counts counts' compared compared' grey grey' words words' r → Equal (S.s + 1) counts' → r ≡ Ok still
  pub ward : (S : Setup) (first second counts counts' compared compared' grey grey' words words' : List ℕ) (r : Result Offset ℕ) → pair_number S first second counts compared grey words ≡ 0
      → PairCall ward_order S first second counts counts' compared compared' grey grey' words words' r → Equal (S.s + 1) counts' → r ≡ Ok (corner S.s)
