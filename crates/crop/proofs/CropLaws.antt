-- Laws of crops: the grey frame of a cropped raster is the part of the frame's, and the conversion writes it row by row.
use mathlib.Core.Path.{◌≡◌, sym, ap, ◌∙◌}
use mathlib.Core.List.{List}
use Prim.Native.Nat.{ℕ, ◌+◌, ◌*◌, ◌-◌, ◌≤◌, ◌<◌}
use native.Mathlib.Nat.{add-zero, mul_comm, mul_assoc, mul-le-mul}
use native.Mathlib.Omega.{arith}
use lib.ListN.{length, get_or, take, drop}
use lib.Seq.{get_or-drop}
use borrow.Author.Rules.{part_to_end}
use Rattle.rules.specs.Frames.{frame_of, SameFrame}
use Rattle.rules.specs.Greys.{grey, grey_frame}
use Rattle.rules.specs.Buffers.{RowAt, FrameAt}
use Rattle.rules.proofs.FrameLaws.{row-ext, row_fits, frame-more, get_d_rows, length-rows}
use Rattle.grey.specs.GreyPlaces.{grey_at}
use Rattle.crop.specs.declared.Crop.{Crop}
use Rattle.crop.specs.declared.Quadrant.{Quadrant}
use Rattle.crop.specs.Crops.{part, cropped, Within}
use Rattle.crop.specs.Quadrants.{quadrant_crop}

-- a row of bytes is three times as long as one of pixels
triple : (y w : ℕ) → y * (3 * w) ≡ 3 * (y * w)
triple y w = sym (mul_assoc y 3 w) ∙ ap (λ (n : ℕ). n * w) (mul_comm y 3) ∙ mul_assoc 3 y w

-- colour c of a cropped raster's pixel
byte : (w : ℕ) (C : Crop) (raster : List ℕ) (x y c : ℕ) → x < C.w → y < C.h → c < 3
    → get_or (cropped w C raster) (3 * (y * C.w + x) + c) 0 ≡ get_or raster (3 * ((C.top + y) * w + (C.left + x)) + c) 0
unfolding cropped frame_of
byte w C raster x y c k l m =
    let here : 3 * (y * C.w + x) + c ≡ y * (3 * C.w) + (3 * x + c) = let t = triple y C.w in omega arith in
    let there : (C.top + y) * (3 * w) + (3 * C.left + (3 * x + c)) ≡ 3 * ((C.top + y) * w + (C.left + x)) + c = let t = triple (C.top + y) w in omega arith in
    ap (λ (i : ℕ). get_or (cropped w C raster) i 0) here
    ∙ get_d_rows (3 * C.w) C.h (λ i z. frame_of (3 * w) raster (3 * C.left + i) (C.top + z)) (3 * x + c) y (omega arith) l
    ∙ ap (λ (i : ℕ). get_or raster i 0) there

-- "the same pixels cropped": the crop's grey frame is the part of the frame's
pub crop-grey : (w : ℕ) (C : Crop) (raster : List ℕ) → SameFrame C.w C.h (grey_frame C.w (cropped w C raster)) (part C (grey_frame w raster))
unfolding grey_frame part
crop-grey w C raster x y k l =
    let red : get_or (cropped w C raster) (3 * (y * C.w + x)) 0 ≡ get_or raster (3 * ((C.top + y) * w + (C.left + x))) 0 = rw (add-zero, add-zero) at (byte w C raster x y 0 k l (omega arith)) in
    λ i. grey (red i) (byte w C raster x y 1 k l (omega arith) i) (byte w C raster x y 2 k l (omega arith) i)

pub crop-length : (w : ℕ) (C : Crop) (raster : List ℕ) → length (cropped w C raster) ≡ 3 * (C.w * C.h)
unfolding cropped
crop-length w C raster = length-rows (3 * C.w) C.h _ ∙ mul_assoc 3 C.w C.h

-- Where the rows of a crop lie in the raster and in the memory.
module _ (C : Crop) (w bytes : ℕ) (inside : Within C w bytes) (y : ℕ) (l : y < C.h) where
  pub row_inside : 3 * ((C.top + y) * w + C.left) + 3 * C.w ≤ bytes
  row_inside =
      let a = row_fits w (C.top + C.h) (C.top + y) (omega arith) in
      let b = mul_comm w (C.top + C.h) in
      let c = inside.columns in
      let d = inside.lines in
      omega arith

  pub row_small : (C.top + y) * w + C.left + C.w ≤ 16777216
  row_small =
      let a = row_fits w (C.top + C.h) (C.top + y) (omega arith) in
      let b = mul-le-mul inside.width inside.height in
      let c = inside.columns in
      omega arith

-- a row's grey values are the frame's
crop-row : (C : Crop) (w : ℕ) (raster : List ℕ) (x y : ℕ)
    → grey_at (take (length raster - 3 * ((C.top + y) * w + C.left)) (drop (3 * ((C.top + y) * w + C.left)) raster)) x ≡ part C (grey_frame w raster) x y
unfolding grey_at grey_frame part
crop-row C w raster x y =
    let from = 3 * ((C.top + y) * w + C.left) in
    let at = 3 * ((C.top + y) * w + (C.left + x)) in
    let colour : (c : ℕ) → get_or (drop from raster) (3 * x + c) 0 ≡ get_or raster (at + c) 0 =
    λ c. get_or-drop from raster (3 * x + c) 0 ∙ ap (λ (i : ℕ). get_or raster i 0) (let e : from + (3 * x + c) ≡ at + c = omega arith in e) in
    let red : get_or (drop from raster) (3 * x) 0 ≡ get_or raster at 0 = rw (add-zero, add-zero) at (colour 0) in
    ap (λ (l : List ℕ). grey (get_or l (3 * x) 0) (get_or l (3 * x + 1) 0) (get_or l (3 * x + 2) 0)) (part_to_end raster from)
    ∙ λ i. grey (red i) (colour 1 i) (colour 2 i)

-- one more row
pub crop-more : (C : Crop) (w to y : ℕ) (raster before mid after : List ℕ)
    → FrameAt to C.w (part C (grey_frame w raster)) before y mid
    → RowAt (to + y * C.w) (grey_at (take (length raster - 3 * ((C.top + y) * w + C.left)) (drop (3 * ((C.top + y) * w + C.left)) raster))) mid C.w after
    → FrameAt to C.w (part C (grey_frame w raster)) before (y + 1) after
crop-more C w to y raster before mid after a r =
    frame-more to C.w (part C (grey_frame w raster)) before y mid after a
    (row-ext (to + y * C.w) _ (λ x. part C (grey_frame w raster) x y) mid after C.w (λ x k. crop-row C w raster x y) r)

-- a quadrant lies in its frame
pub quadrant-inside : (w h : ℕ) (q : Quadrant) → let C = quadrant_crop w h q in (C.left + C.w ≤ w) × (C.top + C.h ≤ h)
quadrant-inside w h Quadrant.UpperLeft = (omega arith, omega arith)
quadrant-inside w h Quadrant.UpperRight = (omega arith, omega arith)
quadrant-inside w h Quadrant.LowerLeft = (omega arith, omega arith)
quadrant-inside w h Quadrant.LowerRight = (omega arith, omega arith)
