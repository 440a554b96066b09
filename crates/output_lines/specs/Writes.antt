-- What a function that puts text into a buffer has done.
use Rattle.std.specs.Prelude.{◌≡◌, List, ℕ, ◌+◌, length}
use Rattle.text.specs.Puts.{Put}

-- a text put at place `at`, and `next` the place after it
pub record Wrote (at : ℕ) (text before : List ℕ) (next : ℕ) (after : List ℕ) : Type 0 where
  pub place : next ≡ at + length text
  pub output : Put at text before after
  pub kept : length after ≡ length before
