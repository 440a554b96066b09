-- The grey values that an exclusion rule leaves out of a level, as an interval.
use Rattle.std.specs.Prelude.{◌≡◌, ℕ, ◌≤◌}
use Rattle.rules.specs.declared.Exclusion.{Exclusion}
use Rattle.rules.specs.Limits.{max_grey}
use Rattle.rules.specs.Levels.{rule_of}
use Rattle.flags.specs.Flags.{outside_bit}

-- at a level with these thresholds the rule's bit of a grey value is 1 where it lies outside lo..hi
pub record Excludes (exclusion : Exclusion) (thresholds : ℕ → ℕ) (percentile lo hi : ℕ) : Type 0 where
  pub ordered : lo ≤ hi
  pub outside : (v : ℕ) → v ≤ max_grey → rule_of exclusion thresholds percentile v ≡ outside_bit lo hi v
