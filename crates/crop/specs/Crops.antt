-- Cropping: "the same pixels cropped" (document 02, Paper 4), of frames and of rasters.
use Rattle.std.specs.Prelude.{List, ℕ, ◌+◌, ◌*◌, ◌≤◌}
use Rattle.rules.specs.Limits.{max_side}
use Rattle.rules.specs.Frames.{Frame, frame_of, rows}
use Rattle.crop.specs.declared.Crop.{Crop}

-- the part of a frame that a crop shows: its pixel (x, y) is the frame's (left + x, top + y)
unfoldable pub part : Crop → Frame → Frame
part C f x y = f (C.left + x) (C.top + y)

-- A raster of width w, cropped: again "rows from the top, three bytes a pixel". A raster's rows have 3·w bytes; byte i of the crop's row y is byte
-- 3·left + i of the frame's row top + y.
unfoldable pub cropped : ℕ → Crop → List ℕ → List ℕ
cropped w C raster = rows (3 * C.w) C.h (λ i y. frame_of (3 * w) raster (3 * C.left + i) (C.top + y))

-- a crop that lies in the frame of width w whose raster has this many bytes, the sides within their limits
pub record Within (C : Crop) (w bytes : ℕ) : Type 0 where
  pub width : w ≤ max_side
  pub height : C.top + C.h ≤ max_side
  pub columns : C.left + C.w ≤ w
  pub lines : 3 * ((C.top + C.h) * w) ≤ bytes
