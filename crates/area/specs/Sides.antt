-- What the sides of the common area are worked out from.
use Rattle.std.specs.Prelude.{List, ℕ, ◌+◌, ◌*◌, ◌≤◌, ◌<◌, ℤ, pos, nat_abs, length, get_or}
use Rattle.rules.specs.Refusals.{◌when◌, ◌or_else◌, bad_size, bad_frames, wrong_length}
use Rattle.area.specs.Common.{some_outside}

-- frame k's number on an axis: dx where the axis is 0, dy where it is 1
abbrev pub axis_of : List ℤ → ℕ → ℕ → ℤ
axis_of offsets axis k = get_or offsets (2 * k + axis) (pos 0)

-- the refusal number but for 13, which asks for the area
unfoldable pub offsets_refusal : ℕ → ℕ → ℕ → List ℤ → ℕ
offsets_refusal w h n offsets =
    2 when bad_size w h
    or_else 6 when bad_frames n
    or_else 9 when wrong_length (2 * n) (length offsets)
    or_else 12 when some_outside offsets

-- no number is far from 0
pub record InRange (l : List ℤ) : Type 0 where
  pub near : (k : ℕ) → k < length l → nat_abs (get_or l k (pos 0)) ≤ 32768
