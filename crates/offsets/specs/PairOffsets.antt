-- A list of offsets, "dx before dy": offset k stands at places 2k and 2k + 1. The offset of frames j and j + 1 is offset j of the list of pairs.
use Rattle.std.specs.Prelude.{List, ℕ, ◌+◌, ◌*◌, ◌<◌, ℤ, pos, get_or, set}
use Rattle.rules.specs.declared.Offset.{Offset}
use Rattle.rules.specs.Limits.{max_offset}
use Rattle.rules.specs.Levels.{Near}

-- the farthest offset of a frame: 15 pairs, each as far as a pair can be
abbrev pub max_frame_offset : ℕ
max_frame_offset = 7665

-- the offset of the pair of frames j and j + 1
abbrev pub pair_offset : List ℤ → ℕ → Offset
pair_offset l j = record { dx = get_or l (2 * j) (pos 0); dy = get_or l (2 * j + 1) (pos 0) }

-- the list once offset k is written
abbrev pub with_offset : ℕ → Offset → List ℤ → List ℤ
with_offset k m l = set (set l (2 * k) m.dx) (2 * k + 1) m.dy

-- n pairs, none larger than a pair can be
abbrev pub SmallPairs : ℕ → List ℤ → Type 0
SmallPairs n l = (j : ℕ) → j < n → Near max_offset (pair_offset l j)
