-- The sizes of a level's frames.
use Rattle.std.specs.Prelude.{ℕ, ◌≤◌, ◌<◌}
use Rattle.rules.specs.Limits.{max_side}

-- "each 1 to 4096"
pub record Sides (w h : ℕ) : Type 0 where
  pub wide : 0 < w
  pub width : w ≤ max_side
  pub high : 0 < h
  pub height : h ≤ max_side
