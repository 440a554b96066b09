-- What is written of rows that are moved sideways.
use Rattle.std.specs.Prelude.{◌≡◌, List, ℕ, ◌+◌, ◌*◌, ◌≤◌, ◌<◌, length, get_or}
use Rattle.rules.specs.Frames.{Frame}
use Rattle.words.specs.declared.moves.Move.{Move}
use Rattle.words.specs.MovedRows.{moved_row}

-- the words of a row from word `first` on
abbrev pub from_word : ℕ → (ℕ → ℕ) → ℕ → ℕ
from_word first f k = f (first + k)

-- the moved rows of a bitmap that begins at `from`, word k of row y
abbrev pub moved_rows : List ℕ → ℕ → Move → Frame
moved_rows words from m k y = moved_row words (from + y * m.n) m k

-- the words from `first` up to `end` of the first y rows of n words from place `to` on are f's, and nothing else has changed
pub record Columns (to n : ℕ) (f : Frame) (first end : ℕ) (before : List ℕ) (y : ℕ) (after : List ℕ) : Type 0 where
  pub len : length after ≡ length before
  pub done : (k z : ℕ) → first ≤ k → k < end → z < y → get_or after (to + (z * n + k)) 0 ≡ f k z
  pub kept : (i : ℕ) → ((k z : ℕ) → first ≤ k → k < end → z < y → i ≡ to + (z * n + k) → ⊥) → get_or after i 0 ≡ get_or before i 0

-- the interior words of the h rows from place `to` on are f's, and nothing outside the rows has changed
pub record Interiors (to h : ℕ) (m : Move) (f : Frame) (before after : List ℕ) : Type 0 where
  pub len : length after ≡ length before
  pub under : (i : ℕ) → i < to → get_or after i 0 ≡ get_or before i 0
  pub done : (k y : ℕ) → m.first ≤ k → k < m.end → y < h → get_or after (to + (y * m.n + k)) 0 ≡ f k y
  pub over : (i : ℕ) → to + h * m.n ≤ i → get_or after i 0 ≡ get_or before i 0
