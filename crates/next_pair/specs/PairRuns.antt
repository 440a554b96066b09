-- The pairs of a series, one after another: where each frame's grey stands, and what each pair's alignment leaves.
use Rattle.std.specs.Prelude.{◌≡◌, cond, List, ℕ, ◌+◌, ◌*◌, ◌-◌, ◌%◌, ◌≤◌, ◌<◌, eqb, ℤ, length, get_or, drop}
use Rattle.rules.specs.declared.Offset.{Offset}
use Rattle.rules.specs.declared.Setup.{Setup}
use Rattle.rules.specs.Limits.{max_frames}
use Rattle.rules.specs.Frames.{Frame, frame_of, written_over, SameFrame}
use Rattle.rules.specs.Greys.{grey_frame}
use Rattle.rules.specs.Bitmaps.{row_words}
use Rattle.rules.specs.Buffers.{RowAt}
use Rattle.rules.specs.Levels.{Aligned, aligned_by}
use Rattle.rules.specs.Refusals.{grey_needed}
use Rattle.rules.specs.Series.{offset_list, joined}
use Rattle.rules.specs.Accepted.{ShapeOk, PercentileOk}
use Rattle.offsets.specs.PairOffsets.{with_offset}

-- Frame k's place in the lent grey memory: neighbours stand in the two halves of its first 2·w·h bytes.
unfoldable pub place_of : ℕ → ℕ → ℕ
place_of k area = cond (eqb (k % 2) 0) 0 area

-- frame k's grey, from its raster
abbrev pub frame_at : Setup → List ℕ → ℕ → Frame
frame_at S rasters k = grey_frame S.w (drop (k * (3 * (S.w * S.h))) rasters)

-- frame k's grey stands in its place
abbrev pub Stands : Setup → List ℕ → ℕ → List ℕ → Type 0
Stands S rasters k grey = SameFrame S.w S.h (frame_of S.w (drop (place_of k (S.w * S.h)) grey)) (frame_at S rasters k)

-- the answer of frames k and k + 1
abbrev pub pair_at : List Offset → Setup → List ℕ → ℕ → Aligned
pair_at preferred S rasters k = aligned_by preferred S (frame_at S rasters k) (frame_at S rasters (k + 1))

-- a setup with the percentile of pair k
abbrev pub setup_at : Setup → List ℕ → ℕ → Setup
setup_at S percentiles k = record { w = S.w; h = S.h; s = S.s; percentile = get_or percentiles k 0; exclusion = S.exclusion }

-- the answers of the pairs, each with its percentile
abbrev pub pairs_of : List Offset → Setup → List ℕ → List ℕ → ℕ → Aligned
pairs_of preferred S percentiles rasters k = pair_at preferred (setup_at S percentiles k) rasters k

-- what pair k needs of the lengths
pub record Room (S : Setup) (k rasters pairs counts compared grey words : ℕ) : Type 0 where
  pub shape : ShapeOk S.w S.h S.s
  pub percentiles : PercentileOk S.exclusion S.percentile
  pub frames : k < max_frames
  pub raster : (k + 1) * (3 * (S.w * S.h)) + 3 * (S.w * S.h) ≤ rasters
  pub offset : 2 * k + 2 ≤ pairs
  pub count_places : k * (9 * (S.s + 1)) + 9 * (S.s + 1) ≤ counts
  pub compared_places : k * (9 * (S.s + 1)) + 9 * (S.s + 1) ≤ compared
  pub greys : grey_needed S.s S.w S.h ≤ grey
  pub bitmaps : 6 * (row_words S.w * S.h) ≤ words

-- what all pairs of n frames need
pub record PairsOk (S : Setup) (n : ℕ) (percentiles : List ℕ) (rasters pairs counts compared grey words : ℕ) : Type 0 where
  pub shape : ShapeOk S.w S.h S.s
  pub frames : (0 < n) × (n ≤ max_frames)
  pub percentile : (k : ℕ) → k < n - 1 → PercentileOk S.exclusion (get_or percentiles k 0)
  pub many : length percentiles ≡ n - 1
  pub exact : rasters ≡ n * (3 * (S.w * S.h))
  pub room1 : 2 * (n - 1) ≤ pairs
  pub room2 : 9 * (S.s + 1) * (n - 1) ≤ counts
  pub room3 : 9 * (S.s + 1) * (n - 1) ≤ compared
  pub greys : grey_needed S.s S.w S.h ≤ grey
  pub bitmaps : 6 * (row_words S.w * S.h) ≤ words

-- Pair k has run: its offset stands in its place, so do its counts and compared numbers, and frame k + 1's grey in its own for the next pair.
pub record Ran (S : Setup) (k : ℕ) (rasters : List ℕ) (answer : Aligned) (pairs pairs' : List ℤ) (counts counts' compared compared' grey' : List ℕ) : Type 0 where
  pub stands : Stands S rasters (k + 1) grey'
  pub offset : pairs' ≡ with_offset k answer.offset pairs
  pub counts_written : RowAt (k * (9 * (S.s + 1))) (λ i. get_or answer.counts i 0) counts (9 * (S.s + 1)) counts'
  pub compared_written : RowAt (k * (9 * (S.s + 1))) (λ i. get_or answer.compared i 0) compared (9 * (S.s + 1)) compared'

-- The first k pairs of n frames have run.
pub record Run (S : Setup) (n k : ℕ) (rasters : List ℕ) (answers : ℕ → Aligned) (pairs pairs' : List ℤ) (counts counts' compared compared' grey' : List ℕ) : Type 0 where
  pub stands : Stands S rasters k grey'
  pub offsets : pairs' ≡ written_over (offset_list k (λ j. (answers j).offset)) pairs
  pub counts_written : RowAt 0 (λ i. get_or (joined (n - 1) (λ j. (answers j).counts)) i 0) counts (k * (9 * (S.s + 1))) counts'
  pub compared_written : RowAt 0 (λ i. get_or (joined (n - 1) (λ j. (answers j).compared)) i 0) compared (k * (9 * (S.s + 1))) compared'

-- All pairs have run.
pub record AllRan (n : ℕ) (answers : ℕ → Aligned) (pairs pairs' : List ℤ) (counts counts' compared compared' : List ℕ) : Type 0 where
  pub offsets : pairs' ≡ written_over (offset_list (n - 1) (λ j. (answers j).offset)) pairs
  pub counts_written : counts' ≡ written_over (joined (n - 1) (λ j. (answers j).counts)) counts
  pub compared_written : compared' ≡ written_over (joined (n - 1) (λ j. (answers j).compared)) compared
