-- What an accepted call has written, quadrant by quadrant; the pair call on the cropped rasters; and that a quadrant's own pixels suffice.
use Rattle.std.specs.Prelude.{Result, Ok, Bool}
use mathlib.Core.Path.{◌≡◌, refl, sym, ap, ◌∙◌}
use mathlib.Core.List.{List}
use Prim.Native.Nat.{ℕ, ◌/◌}
use lib.IntN.{ℤ}
use lib.ListN.{length}
use Rattle.rules.specs.declared.Offset.{Offset}
use Rattle.rules.specs.declared.Setup.{Setup}
use Rattle.rules.specs.Frames.{Frame, SameFrame, written_over}
use Rattle.rules.specs.Greys.{grey_frame}
use Rattle.rules.specs.Levels.{rule_of, Aligned}
use Rattle.rules.specs.Answers.{buffer_after, answer_for}
use Rattle.rules.specs.Refusals.{raster_length}
use Rattle.rules.specs.Calls.{exclusion_refusal, pair_result, pair_number}
use Rattle.rules.proofs.PairLaws.{pair-ext}
use Rattle.crop.specs.declared.Quadrant.{Quadrant}
use Rattle.crop.specs.Crops.{part}
use Rattle.crop.specs.Quadrants.{quadrant_crop}
use Rattle.crop.proofs.CropLaws.{crop-grey, crop-length}
use Rattle.quadrant_refusals.proofs.QuadrantRefusalLaws.{pair-accepted}
use Rattle.quadrant.specs.QuadrantPairs.{quadrant_setup, quadrant_raster, quadrant_offset}
use Rattle.four_quadrants.specs.FourOffsets.{four_offsets, coordinates}
use Rattle.quadrants.specs.QuadrantsCalls.{quadrants_number, QuadrantsCall}
use Rattle.quadrant_theorems.specs.CroppedPairs.{offset_of, CroppedPair}
use Rattle.quadrant_theorems.specs.OwnPixels.{SameQuadrant, OwnPixels}

-- the four offsets are read again from where they were written
read_again : (order : List Offset) (S : Setup) (first second : List ℕ) (lent : List ℤ) (q : Quadrant)
    → offset_of q (written_over (coordinates (four_offsets order S first second)) lent) ≡ quadrant_offset order S first second q
unfolding four_offsets
read_again order S first second lent Quadrant.UpperLeft = refl
read_again order S first second lent Quadrant.UpperRight = refl
read_again order S first second lent Quadrant.LowerLeft = refl
read_again order S first second lent Quadrant.LowerRight = refl

-- what an accepted call has written for a quadrant
module _ (order : List Offset) (S : Setup) (first second : List ℕ) (offsets offsets' : List ℤ) (grey grey' words words' : List ℕ) (r : Result Bool ℕ)
    (accepted : quadrants_number S first second offsets grey words ≡ 0) (call : QuadrantsCall order S first second offsets offsets' grey grey' words words' r) where
  pub all-written : offsets' ≡ written_over (coordinates (four_offsets order S first second)) offsets
  all-written = call.offsets_are ∙ ap (λ (n : ℕ). buffer_after n (coordinates (four_offsets order S first second)) offsets) accepted

  pub offset-written : (q : Quadrant) → offset_of q offsets' ≡ quadrant_offset order S first second q
  offset-written q = ap (offset_of q) all-written ∙ read_again order S first second offsets q

-- the pair call's number, from the lengths of the crops
crops-fit : (S : Setup) (q : Quadrant) (raster : List ℕ) → length (quadrant_raster S q raster) ≡ raster_length (S.w / 2) (S.h / 2)
crops-fit S q raster = crop-length S.w (quadrant_crop S.w S.h q) raster

pub cropped-pair : CroppedPair
unfolding quadrant_offset
cropped-pair order S first second offsets offsets' grey grey' words words' r accepted call q counts counts' compared compared' memory memory' bitmaps bitmaps' p room1 room2 room3 room4 pair =
    let none : pair_number (quadrant_setup S) (quadrant_raster S q first) (quadrant_raster S q second) counts compared memory bitmaps ≡ 0 =
    rw (crops-fit S q first, crops-fit S q second)
    (pair-accepted S.w S.h S.s (exclusion_refusal S.exclusion) S.percentile (length first) (length second) (length offsets) (length grey) (length words)
    (length counts) (length compared) (length memory) (length bitmaps) accepted room1 room2 room3 room4) in
    pair.answered
    ∙ ap (λ (n : ℕ). answer_for n (quadrant_offset order S first second q)) none
    ∙ ap Ok (sym (offset-written order S first second offsets offsets' grey grey' words words' r accepted call q))

-- a quadrant's grey frame is the part of the frame's
abbrev pub grey_in : Setup → Quadrant → List ℕ → Frame
grey_in S q raster = grey_frame (S.w / 2) (quadrant_raster S q raster)

pub quadrant-grey : (S : Setup) (q : Quadrant) (raster : List ℕ)
    → SameFrame (S.w / 2) (S.h / 2) (grey_in S q raster) (part (quadrant_crop S.w S.h q) (grey_frame S.w raster))
quadrant-grey S q raster = crop-grey S.w (quadrant_crop S.w S.h q) raster

-- frames that agree in a quadrant give it the same offset
same-quadrant : (order : List Offset) (S : Setup) (first first' second second' : List ℕ) (q : Quadrant) → SameQuadrant S q first first' → SameQuadrant S q second second'
    → quadrant_offset order S first second q ≡ quadrant_offset order S first' second' q
unfolding quadrant_offset pair_result
same-quadrant order S first first' second second' q one two =
    ap (λ (a : Aligned). a.offset)
    (pair-ext order (rule_of S.exclusion) S.percentile S.s (S.w / 2) (S.h / 2)
    (grey_in S q first) (grey_in S q first') (grey_in S q second) (grey_in S q second')
    (λ x y k l. quadrant-grey S q first x y k l ∙ one x y k l ∙ sym (quadrant-grey S q first' x y k l))
    (λ x y k l. quadrant-grey S q second x y k l ∙ two x y k l ∙ sym (quadrant-grey S q second' x y k l)))

pub own-pixels : OwnPixels
own-pixels order S first first' second second' offsets out offsets' out' grey made grey' made' words left words' left' r r' none call none' call' q one two =
    offset-written order S first second offsets out grey made words left r none call q
    ∙ same-quadrant order S first first' second second' q one two
    ∙ sym (offset-written order S first' second' offsets' out' grey' made' words' left' r' none' call' q)
