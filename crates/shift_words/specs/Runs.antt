-- A run of interior words, over all rows taken as one.
use Rattle.std.specs.Prelude.{List, ℕ, ◌+◌, ◌*◌, ◌-◌, ◌≤◌, ◌<◌}
use Rattle.rules.specs.Limits.{word_bits}
use Rattle.rules.specs.Buffers.{RowAt}
use Rattle.words.specs.declared.moves.Move.{Move}
use Rattle.words.specs.MovedRows.{moved_word}
use Rattle.shift_words.specs.MovedParts.{from_word}

-- what a run from word `first` up to word `end` of h rows may assume, of memories of `src` and `dst` words
pub record RunIn (m : Move) (h first end from src to dst : ℕ) : Type 0 where
  pub some : (m.first < m.end) × (0 < h)
  pub after : m.first ≤ first
  pub span : first ≤ end
  pub before : end ≤ (h - 1) * m.n + m.end
  pub source : from + m.n * h ≤ src
  pub room : to + m.n * h ≤ dst

-- these words, moved, stand from place `to` on, and nothing else has changed
abbrev pub RunAt : List ℕ → ℕ → Move → ℕ → ℕ → ℕ → ℕ → List ℕ → List ℕ → Type 0
RunAt src from m h to first end before after =
    RowAt (to + first) (from_word first (moved_word src from (m.n * h * word_bits) m.q m.r)) before (end - first) after
