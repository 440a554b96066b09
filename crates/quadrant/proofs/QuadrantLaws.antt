-- Laws of a quadrant's alignment: its crop lies in the frame, and the recursion's answer is that of the cropped rasters.
use mathlib.Core.Path.{◌≡◌, sym, subst, ◌∙◌}
use mathlib.Core.List.{List}
use Prim.Native.Nat.{ℕ, ◌+◌, ◌*◌, ◌/◌, ◌≤◌}
use native.Mathlib.Nat.{le_refl}
use lib.ListN.{drop}
use Rattle.rules.specs.declared.Offset.{Offset}
use Rattle.rules.specs.declared.Setup.{Setup}
use Rattle.rules.specs.Frames.{Frame, frame_of, SameFrame}
use Rattle.rules.specs.Greys.{grey_frame}
use Rattle.rules.specs.Buffers.{FrameAt}
use Rattle.align.specs.Aligns.{Aligns}
use Rattle.align.proofs.WrittenLaws.{stands, stays}
use Rattle.pair_in_order.proofs.PairCallLaws.{pair-offset}
use Rattle.crop.specs.declared.Crop.{Crop}
use Rattle.crop.specs.declared.Quadrant.{Quadrant}
use Rattle.crop.specs.Crops.{part, cropped}
use Rattle.crop.specs.Quadrants.{quadrant_crop}
use Rattle.crop.proofs.CropLaws.{crop-grey}
use Rattle.quadrant.specs.QuadrantPairs.{quadrant_setup, quadrant_raster, quadrant_offset}

-- What is known of a crop that is a quadrant's.
module _ (w h : ℕ) (q : Quadrant) (C : Crop) (e : C ≡ quadrant_crop w h q) where
  pub crop-room : (to bytes : ℕ) → to + w / 2 * (h / 2) ≤ bytes → to + C.w * C.h ≤ bytes
  crop-room to bytes room = rw e room

-- the recursion's answer, from what the two conversions have put into the memory
module _ (preferred : List Offset) (S : Setup) (q : Quadrant) (C : Crop) (e : C ≡ quadrant_crop S.w S.h q)
    (first second grey0 grey1 grey2 grey3 counts counts' compared compared' : List ℕ) (r : Offset)
    (one : FrameAt 0 C.w (part C (grey_frame S.w first)) grey0 C.h grey1)
    (two : FrameAt (S.w / 2 * (S.h / 2)) C.w (part C (grey_frame S.w second)) grey1 C.h grey2)
    (aligns : Aligns preferred (quadrant_setup S) 0 (S.w / 2 * (S.h / 2)) 0 grey2 grey3 counts counts' compared compared' r) where
  abbrev area : ℕ
  area = S.w / 2 * (S.h / 2)

  abbrev grey-of : Crop → List ℕ → Frame
  grey-of D raster = part D (grey_frame S.w raster)

  -- both frames in the memory are those of the cropped rasters, for a crop D
  abbrev Both : Crop → Type 0
  Both D =
      SameFrame D.w D.h (frame_of D.w (drop 0 grey2)) (grey_frame D.w (cropped S.w D first))
      × SameFrame D.w D.h (frame_of D.w (drop area grey2)) (grey_frame D.w (cropped S.w D second))

  both : Both C
  both = (
    λ x y k l. stays area C.w C.h (grey-of C first) (grey-of C second) grey0 grey1 grey2 one (rw e (le_refl area)) two x y k l ∙ sym (crop-grey S.w C first x y k l),
    λ x y k l. stands area C.w C.h (grey-of C second) grey1 grey2 two x y k l ∙ sym (crop-grey S.w C second x y k l),
  )

  pub quadrant-offset : r ≡ quadrant_offset preferred S first second q
  unfolding quadrant_offset
  quadrant-offset =
      let frames = subst Both e both in
      pair-offset preferred (quadrant_setup S) (quadrant_raster S q first) (quadrant_raster S q second) grey2 grey3 counts counts' compared compared' r
      frames.0 frames.1 aligns
