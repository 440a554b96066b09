-- Planes and words by the one test of a pixel.
use Rattle.std.specs.Prelude.{List, ℕ, ◌+◌, ◌*◌, ◌-◌, min, get_or}
use Rattle.rules.specs.Frames.{Frame, frame_of}
use Rattle.rules.specs.Planes.{bits_by}
use Rattle.rules.specs.Bitmaps.{word_of}
use Rattle.flags.specs.Flags.{outside_bit, flag_at}
use Rattle.gather.specs.Gathers.{by_columns}

-- the plane of a grey frame of width w by that test
unfoldable pub outside_plane : ℕ → ℕ → ℕ → List ℕ → Frame
outside_plane lo hi w grey = bits_by (outside_bit lo hi) (frame_of w grey)

-- word k of the row of w pixels that begins at place `from` of a grey list
unfoldable pub outside_word : ℕ → ℕ → List ℕ → ℕ → ℕ → ℕ → ℕ
outside_word lo hi grey from w k = word_of w (λ x y. outside_bit lo hi (get_or grey (from + x) 0)) k 0

-- the flags of that word by columns: of 64 pixels, or of what is left of the row
unfoldable pub columns_word : ℕ → ℕ → List ℕ → ℕ → ℕ → ℕ → ℕ
columns_word lo hi grey from w k = by_columns (flag_at lo hi grey (from + k * 64) (min 64 (w - k * 64)))
