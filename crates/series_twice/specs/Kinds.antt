-- The kinds of series calls: the order of the nine that each prefers, and what it leaves pixels out by.
use Rattle.std.specs.Prelude.{List, ℕ}
use Rattle.rules.specs.declared.Offset.{Offset}
use Rattle.rules.specs.declared.Exclusion.{Exclusion}
use Rattle.rules.specs.Levels.{least_move_order, order_of}
use Rattle.rules.specs.Series.{Settings}
use Rattle.series_twice.specs.declared.Kind.{Kind}

abbrev pub order_by : Kind → List Offset
order_by (Kind.Tolerance order tolerance) = order_of order
order_by (Kind.Band band) = least_move_order

abbrev pub exclusion_by : Kind → Exclusion
exclusion_by (Kind.Tolerance order tolerance) = Exclusion.Tolerance tolerance
exclusion_by (Kind.Band band) = Exclusion.Band band

abbrev pub settings_by : Kind → ℕ → ℕ → ℕ → ℕ → ℕ → List ℕ → Settings
settings_by kind w h s n r percentiles =
    record { frames = n; w = w; h = h; halvings = s; exclusion = exclusion_by kind; reference = r; percentiles = percentiles }
