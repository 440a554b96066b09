-- A series of equal flat frames: its counts and compared numbers are all 0, so that "blank sky should not move the mount" (document 02, Paper 1), and in Ward's order the bound of demand 3 is reached.
use Rattle.std.specs.Prelude.{◌≡◌, List, ℕ, ◌+◌, ◌*◌, ◌-◌, ◌≤◌, ◌<◌}
use Rattle.rules.specs.Limits.{max_grey}
use Rattle.rules.specs.Frames.{SameFrame}
use Rattle.rules.specs.Levels.{ward_order, least_move_order}
use Rattle.rules.specs.Series.{Settings, grey_of, series_answer}
use Rattle.rules.specs.Calls.{tolerance_settings}
use Rattle.rules.specs.FlatFrames.{flat, zeros}
use Rattle.reexposure.specs.Reexposure.{Sound}
use Rattle.reexposure.specs.BlankSeries.{Unmoved, Reached}

-- the answers in both orders
pub record FlatAnswers (S : Settings) (F : List ℕ) : Type 0 where
  pub unmoved : Unmoved S (series_answer least_move_order S F).offsets
  pub counts : (series_answer least_move_order S F).counts ≡ zeros (9 * (S.halvings + 1) * (S.frames - 1))
  pub compared : (series_answer least_move_order S F).compared ≡ zeros (9 * (S.halvings + 1) * (S.frames - 1))
  pub reached : Reached S (series_answer ward_order S F).offsets
  pub ward_counts : (series_answer ward_order S F).counts ≡ zeros (9 * (S.halvings + 1) * (S.frames - 1))
  pub ward_compared : (series_answer ward_order S F).compared ≡ zeros (9 * (S.halvings + 1) * (S.frames - 1))

-- every frame has one grey value (proved in proofs/FlatSeriesLaws.antt as `flat-series`)
abbrev pub FlatSeries : Type 0
FlatSeries =
    (w h s tolerance n r : ℕ) (percentiles F : List ℕ) (v : ℕ) → Sound (tolerance_settings w h s tolerance n r percentiles) → v ≤ max_grey
    → ((k : ℕ) → k < n → SameFrame w h (grey_of (tolerance_settings w h s tolerance n r percentiles) F k) (flat v))
    → FlatAnswers (tolerance_settings w h s tolerance n r percentiles) F
