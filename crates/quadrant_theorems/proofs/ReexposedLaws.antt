-- Re-exposed frames give the same four offsets and the same answer: a quadrant of a re-exposed frame is that quadrant re-exposed.
use Rattle.rules.specs.Answers.{answer_for}
use mathlib.Core.Path.{◌≡◌, refl, sym, ap, ap₂, ◌∙◌}
use mathlib.Core.List.{List, [], ◌∷◌}
use Prim.Native.Nat.{ℕ, ◌+◌, ◌/◌, compare}
use native.Mathlib.Omega.{arith}
use lib.IntN.{ℤ}
use lib.ListN.{length}
use Rattle.rules.specs.declared.Offset.{Offset}
use Rattle.rules.specs.declared.Setup.{Setup}
use Rattle.rules.specs.Greys.{grey_frame}
use Rattle.rules.specs.Levels.{least_move_order, rule_of, tolerance_in, Aligned}
use Rattle.rules.specs.Calls.{tolerance_setup, pair_result}
use Rattle.rules.proofs.RefusalLaws.{buffer-part}
use Rattle.reexposure.specs.Reexposure.{SameOrder, Bytes, GreyBytes}
use Rattle.reexposure.proofs.OrderLaws.{setting-by-order}
use Rattle.reexposure.proofs.Theorem.{same-pair, grey-byte}
use Rattle.crop.specs.declared.Quadrant.{Quadrant}
use Rattle.crop.specs.Crops.{part}
use Rattle.crop.specs.Quadrants.{quadrant_crop}
use Rattle.crop.proofs.CropLaws.{quadrant-inside}
use Rattle.rotation.specs.Turns.{turned}
use Rattle.quadrant_refusals.proofs.QuadrantRefusalLaws.{quadrants-ok}
use Rattle.quadrant.specs.QuadrantPairs.{quadrant_offset}
use Rattle.four_quadrants.specs.FourOffsets.{four_offsets, coordinates}
use Rattle.quadrants.specs.QuadrantsCalls.{quadrants_number}
use Rattle.quadrant_theorems.specs.ReexposedQuadrants.{ReexposedRaster, QuadrantsAlike, AlikeAtZero}
use Rattle.quadrant_theorems.proofs.CallLaws.{grey_in, quadrant-grey}

-- a quadrant's grey values are bytes
grey-bytes : (S : Setup) (q : Quadrant) (raster : List ℕ) → Bytes raster → GreyBytes (S.w / 2) (S.h / 2) (grey_in S q raster)
unfolding part
grey-bytes S q raster bytes x y k l =
    let C = quadrant_crop S.w S.h q in
    rw (quadrant-grey S q raster x y k l) (grey-byte S.w raster bytes (C.left + x) (C.top + y))

-- the quadrant re-exposed
order-kept : (S : Setup) (q : Quadrant) (raster raster' : List ℕ) → SameOrder S.w S.h (grey_frame S.w raster) (grey_frame S.w raster')
    → SameOrder (S.w / 2) (S.h / 2) (grey_in S q raster) (grey_in S q raster')
unfolding part
order-kept S q raster raster' alike x y u v kx ky ku kv =
    let C = quadrant_crop S.w S.h q in
    let p = quadrant-inside S.w S.h q in
    let a = p.0 in
    let b = p.1 in
    ap₂ compare (quadrant-grey S q raster x y kx ky) (quadrant-grey S q raster u v ku kv)
    ∙ alike (C.left + x) (C.top + y) (C.left + u) (C.top + v) (omega arith) (omega arith) (omega arith) (omega arith)
    ∙ sym (ap₂ compare (quadrant-grey S q raster' x y kx ky) (quadrant-grey S q raster' u v ku kv))

module _ (order : List Offset) (S : Setup) (fair : tolerance_in S.exclusion ≡ 0) (first first' second second' : List ℕ) (offsets : List ℤ) (grey words : List ℕ)
    (one : ReexposedRaster S first first') (two : ReexposedRaster S second second') (accepted : quadrants_number S first second offsets grey words ≡ 0) where
  same-offset : (q : Quadrant) → quadrant_offset order S first' second' q ≡ quadrant_offset order S first second q
  unfolding quadrant_offset pair_result
  same-offset q =
      let ok = (quadrants-ok S.w S.h S.s S.exclusion S.percentile (length first) (length second) (length offsets) (length grey) (length words) accepted).quadrant.percentiles in
      sym (ap (λ (a : Aligned). a.offset)
      (same-pair order (rule_of S.exclusion) S.percentile S.s (S.w / 2) (S.h / 2) (setting-by-order S.exclusion S.percentile fair ok)
      (let l = ok.least in omega arith) (let l = ok.most in omega arith)
      (grey_in S q first) (grey_in S q first') (grey_in S q second) (grey_in S q second')
      (grey-bytes S q first one.bytes) (grey-bytes S q first' one.bytes') (grey-bytes S q second two.bytes) (grey-bytes S q second' two.bytes')
      (order-kept S q first first' one.alike) (order-kept S q second second' two.alike)))

  same-four : four_offsets order S first' second' ≡ four_offsets order S first second
  unfolding four_offsets
  same-four = λ i. same-offset Quadrant.UpperLeft i ∷ same-offset Quadrant.UpperRight i ∷ same-offset Quadrant.LowerLeft i ∷ same-offset Quadrant.LowerRight i ∷ []

eight : (order : List Offset) (S : Setup) (first second : List ℕ) → length (coordinates (four_offsets order S first second)) ≡ 8
unfolding four_offsets
eight order S first second = refl

pub quadrants-alike : QuadrantsAlike
quadrants-alike order S fair first first' second second' offsets out offsets' out' grey made grey' made' words left words' left' r r' one two lo lg lw accepted call call' =
    let accepted' : quadrants_number S first' second' offsets' grey' words' ≡ 0 = rw (one.size, two.size, lo, lg, lw) accepted in
    let four : four_offsets order S first' second' ≡ four_offsets order S first second = same-four order S fair first first' second second' offsets grey words one two accepted in
    record {
      accepted = accepted';
      answer = call'.answered ∙ ap₂ answer_for (accepted' ∙ sym accepted) (ap turned four) ∙ sym call.answered;
      offsets =
          buffer-part _ 8 (coordinates (four_offsets order S first' second')) offsets' out' accepted' (eight order S first' second') call'.offsets_are
          ∙ ap coordinates four
          ∙ sym (buffer-part _ 8 (coordinates (four_offsets order S first second)) offsets out accepted (eight order S first second) call.offsets_are);
    }

-- tolerance 0 sees grey values by their order alone
pub alike-at-zero : AlikeAtZero
alike-at-zero w h s percentile = quadrants-alike least_move_order (tolerance_setup w h s 0 percentile) refl
