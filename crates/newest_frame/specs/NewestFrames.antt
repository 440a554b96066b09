-- A new frame in the place of a live bracket's newest one, and their alignment.
use Rattle.std.specs.Prelude.{◌≡◌, List, ℕ, ◌*◌, ◌≤◌, length, drop}
use Rattle.rules.specs.declared.Offset.{Offset}
use Rattle.rules.specs.declared.Setup.{Setup}
use Rattle.rules.specs.Frames.{frame_of, SameFrame, rows}
use Rattle.rules.specs.Greys.{grey_frame}
use Rattle.rules.specs.Bitmaps.{row_words}
use Rattle.rules.specs.Levels.{aligned_by}
use Rattle.rules.specs.Refusals.{grey_needed}
use Rattle.rules.specs.Accepted.{ShapeOk, PercentileOk}

-- what the alignment needs of the settings and the lengths
pub record NewestOk (S : Setup) (newest raster grey words : ℕ) : Type 0 where
  pub shape : ShapeOk S.w S.h S.s
  pub percentiles : PercentileOk S.exclusion S.percentile
  pub exact1 : newest ≡ S.w * S.h
  pub exact2 : raster ≡ 3 * (S.w * S.h)
  pub greys : grey_needed S.s S.w S.h ≤ grey
  pub bitmaps : 6 * (row_words S.w * S.h) ≤ words

-- the newest grey is the raster's
abbrev pub Replaced : ℕ → ℕ → List ℕ → List ℕ → Type 0
Replaced w h raster newest = newest ≡ rows w h (grey_frame w raster)

-- both frames stand in the work memory, of the same length as before
pub record FramesPut (w h : ℕ) (newest newest' raster : List ℕ) (bytes : ℕ) (grey : List ℕ) : Type 0 where
  pub len : length grey ≡ bytes
  pub first : SameFrame w h (frame_of w (drop 0 grey)) (frame_of w newest)
  pub second : SameFrame w h (frame_of w (drop (w * h) grey)) (grey_frame w raster)
  pub replaced : Replaced w h raster newest'

-- the offset of the newest frame and the new one, which is the newest then
pub record NewestAligned (order : List Offset) (S : Setup) (newest newest' raster : List ℕ) (r : Offset) : Type 0 where
  pub offset : r ≡ (aligned_by order S (frame_of S.w newest) (grey_frame S.w raster)).offset
  pub replaced : Replaced S.w S.h raster newest'
