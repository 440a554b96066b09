-- The settings of a series, from those of its pairs.
use Rattle.std.specs.Prelude.{List, ℕ}
use Rattle.rules.specs.declared.Setup.{Setup}
use Rattle.rules.specs.Series.{Settings}

-- n frames with reference r; each pair has its percentile in the setup's place
abbrev pub settings_of : Setup → ℕ → ℕ → List ℕ → Settings
settings_of S n r percentiles =
    record { frames = n; w = S.w; h = S.h; halvings = S.s; exclusion = S.exclusion; reference = r; percentiles = percentiles }
