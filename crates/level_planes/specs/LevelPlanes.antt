-- Where the bitmaps of a level stand in lent words: of each frame the threshold bits, and after them the exclusion bits.
use Rattle.std.specs.Prelude.{◌≡◌, List, ℕ, ◌+◌, ◌*◌, ◌<◌, length, get_or, drop}
use Rattle.rules.specs.declared.Setup.{Setup}
use Rattle.rules.specs.Frames.{Frame, frame_of}
use Rattle.rules.specs.Bitmaps.{row_words}
use Rattle.rules.specs.Differences.{Planes, SamePlanes}
use Rattle.rules.specs.Levels.{rule_of, planes_by}
use Rattle.rules.specs.Calls.{planes_of}

-- the two planes of the frame whose bitmaps begin at place `to`
abbrev pub planes_at : ℕ → ℕ → ℕ → List ℕ → Planes
planes_at w h to words = planes_of w h (drop to words) (drop (to + row_words w * h) words)

-- the first y rows of two frames of rows of n words, which begin at `first` and at `second`; what stands before them is kept
pub record BothAt (first second n : ℕ) (f g : Frame) (before : List ℕ) (y : ℕ) (after : List ℕ) : Type 0 where
  pub len : length after ≡ length before
  pub under : (m : ℕ) → m < first → get_or after m 0 ≡ get_or before m 0
  pub firsts : (x z : ℕ) → x < n → z < y → get_or after (first + (z * n + x)) 0 ≡ f x z
  pub seconds : (x z : ℕ) → x < n → z < y → get_or after (second + (z * n + x)) 0 ≡ g x z

-- the bitmaps of a grey frame, from place `to` on, as a setup says
pub record PackedAt (S : Setup) (grey : List ℕ) (to : ℕ) (before after : List ℕ) : Type 0 where
  pub len : length after ≡ length before
  pub under : (m : ℕ) → m < to → get_or after m 0 ≡ get_or before m 0
  pub planes : SamePlanes S.w S.h (planes_at S.w S.h to after) (planes_by (rule_of S.exclusion) S.percentile S.w S.h (frame_of S.w grey))
