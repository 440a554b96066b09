-- Text put into a lent buffer, piece after piece.
use Rattle.std.specs.Prelude.{◌≡◌, List, ◌++◌, ℕ, ◌+◌, ◌≤◌, length, take, drop}

-- `after` is `before` with a text standing at place `at`, and nothing else changed.
pub record Put (at : ℕ) (text before after : List ℕ) : Type 0 where
  pub room : at + length text ≤ length before
  pub is : after ≡ (take at before ++ text) ++ drop (at + length text) before
