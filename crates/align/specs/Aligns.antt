-- Two grey frames in lent memory, and their alignment.
use Rattle.std.specs.Prelude.{◌≡◌, List, ℕ, ◌+◌, ◌*◌, ◌^◌, ◌≤◌, ◌<◌, get_or, drop}
use Rattle.rules.specs.declared.Offset.{Offset}
use Rattle.rules.specs.declared.Setup.{Setup}
use Rattle.rules.specs.Limits.{max_side, max_halvings}
use Rattle.rules.specs.Frames.{frame_of}
use Rattle.rules.specs.Levels.{Aligned, aligned_by}
use Rattle.rules.specs.Refusals.{grey_needed}
use Rattle.rules.specs.Accepted.{PercentileOk}
use Rattle.rules.specs.Buffers.{RowAt}

-- the frames at `first` and `second`, within the first 2·w·h bytes of the memory, which suffices for the halvings
pub record Frames (first second : ℕ) (S : Setup) (memory : ℕ) : Type 0 where
  pub wide : 2 ^ (S.s + 2) ≤ S.w
  pub width : S.w ≤ max_side
  pub high : 2 ^ (S.s + 2) ≤ S.h
  pub height : S.h ≤ max_side
  pub halvings : S.s ≤ max_halvings
  pub percentiles : PercentileOk S.exclusion S.percentile
  pub one : first + S.w * S.h ≤ 2 * (S.w * S.h)
  pub two : second + S.w * S.h ≤ 2 * (S.w * S.h)
  pub room : grey_needed S.s S.w S.h ≤ memory

-- the pair's answer for the two frames that the memory holds
abbrev pub aligned_in : List Offset → Setup → ℕ → ℕ → List ℕ → Aligned
aligned_in preferred S first second grey = aligned_by preferred S (frame_of S.w (drop first grey)) (frame_of S.w (drop second grey))

-- k-th count of an answer, and k-th compared number
abbrev pub count_of : Aligned → ℕ → ℕ
count_of answer k = get_or answer.counts k 0

abbrev pub compared_of : Aligned → ℕ → ℕ
compared_of answer k = get_or answer.compared k 0

pub record Aligns (preferred : List Offset) (S : Setup) (first second at : ℕ) (grey grey' counts counts' compared compared' : List ℕ) (r : Offset) : Type 0 where
  pub offset : r ≡ (aligned_in preferred S first second grey).offset
  -- the 9·(s + 1) counts stand from place `at` on, and so do the compared numbers
  pub counts_written : RowAt at (count_of (aligned_in preferred S first second grey)) counts (9 * (S.s + 1)) counts'
  pub compared_written : RowAt at (compared_of (aligned_in preferred S first second grey)) compared (9 * (S.s + 1)) compared'
  -- the two frames are still there
  pub kept : (m : ℕ) → m < 2 * (S.w * S.h) → get_or grey' m 0 ≡ get_or grey m 0
