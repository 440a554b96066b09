-- The examples, by computing the definitions; the offsets from the crops, which are document 01's printed frames and flat ones.
use mathlib.Core.Path.{◌≡◌, refl, ap, ap₂, ◌∙◌}
use mathlib.Core.List.{List, [], ◌∷◌}
use Prim.Native.Nat.{ℕ}
use lib.IntN.{pos, negsuc}
use Rattle.rules.specs.declared.Offset.{Offset}
use Rattle.rules.specs.declared.Setup.{Setup}
use Rattle.rules.specs.Sums.{sum, sum_pixels}
use Rattle.rules.specs.Frames.{frame_of, row, rows}
use Rattle.rules.specs.Greys.{grey, grey_frame}
use Rattle.rules.specs.Thresholds.{at_most, reaches, least, threshold}
use Rattle.rules.specs.Planes.{threshold_bit, distance, exclusion_bit, within}
use Rattle.rules.specs.Bitmaps.{row_words}
use Rattle.rules.specs.Differences.{differ, keep, with_partner, difference, compared}
use Rattle.rules.specs.Refusals.{bad_side, bad_size, bad_halvings, too_small, bad_tolerance, bad_percentile, level_pixels}
use Rattle.rules.specs.Levels.{least_move_order, planes_by, first_least, chosen, level, count_at, compared_at, pair}
use Rattle.rules.specs.Calls.{tolerance_setup, pair_result}
use Rattle.rules.specs.Examples.{first_rows, second_rows, colourless}
use Rattle.crop.specs.declared.Quadrant.{Quadrant}
use Rattle.crop.specs.Crops.{cropped}
use Rattle.rotation.specs.Turns.{apart, differing, differing_from, turned}
use Rattle.quadrant_refusals.specs.QuadrantRefusals.{quadrants_refusal}
use Rattle.quadrant.specs.QuadrantPairs.{quadrant_raster, quadrant_offset}
use Rattle.four_quadrants.specs.FourOffsets.{four_offsets}
use Rattle.quadrant_theorems.specs.QuadrantExamples.{at, dull, turned_first, turned_second, QuadrantExamples}

abbrev nine : Setup
nine = tolerance_setup 9 9 0 0 50

-- the pairs that the quadrants are
pair_offset : List ℕ → List ℕ → Offset
pair_offset a b = (pair_result least_move_order (tolerance_setup 4 4 0 0 50) (colourless a) (colourless b)).offset

printed : pair_offset (first_rows 10 20 90) (second_rows 10 20 90) ≡ at (negsuc 0) (pos 0)
unfolding pair_offset pair_result pair level chosen first_least count_at compared_at planes_by difference compared with_partner keep differ within sum_pixels sum threshold_bit exclusion_bit distance threshold least reaches at_most grey_frame grey
printed = refl

exchanged : pair_offset (second_rows 10 20 90) (first_rows 10 20 90) ≡ at (pos 1) (pos 0)
unfolding pair_offset pair_result pair level chosen first_least count_at compared_at planes_by difference compared with_partner keep differ within sum_pixels sum threshold_bit exclusion_bit distance threshold least reaches at_most grey_frame grey
exchanged = refl

flat : pair_offset dull dull ≡ at (pos 0) (pos 0)
unfolding pair_offset pair_result pair level chosen first_least count_at compared_at planes_by difference compared with_partner keep differ within sum_pixels sum threshold_bit exclusion_bit distance threshold least reaches at_most grey_frame grey
flat = refl

-- what the quadrants of both frames are
module _ (q : Quadrant) (a b : List ℕ) (one : quadrant_raster nine q turned_first ≡ colourless a) (two : quadrant_raster nine q turned_second ≡ colourless b) where
  as-pair : quadrant_offset least_move_order nine turned_first turned_second q ≡ pair_offset a b
  unfolding quadrant_offset pair_offset
  as-pair = ap₂ (λ (f g : List ℕ). (pair_result least_move_order (tolerance_setup 4 4 0 0 50) f g).offset) one two

four : four_offsets least_move_order nine turned_first turned_second ≡ at (negsuc 0) (pos 0) ∷ at (pos 0) (pos 0) ∷ at (pos 0) (pos 0) ∷ at (pos 1) (pos 0) ∷ []
unfolding four_offsets cropped rows row frame_of
four =
    let a = as-pair Quadrant.UpperLeft (first_rows 10 20 90) (second_rows 10 20 90) refl refl ∙ printed in
    let b = as-pair Quadrant.UpperRight dull dull refl refl ∙ flat in
    let c = as-pair Quadrant.LowerLeft dull dull refl refl ∙ flat in
    let d = as-pair Quadrant.LowerRight (second_rows 10 20 90) (first_rows 10 20 90) refl refl ∙ exchanged in
    λ i. a i ∷ b i ∷ c i ∷ d i ∷ []

pub quadrant-examples : QuadrantExamples
unfolding cropped rows row frame_of turned differing_from differing apart quadrants_refusal bad_size bad_side bad_halvings too_small bad_tolerance bad_percentile level_pixels row_words threshold least reaches at_most sum_pixels sum grey_frame grey
quadrant-examples = record {
  corners = refl;
  colours = refl;
  straight = refl;
  upper = refl;
  diagonal = refl;
  lower = refl;
  accepted = refl;
  less_memory = refl;
  seven_numbers = refl;
  too_small = refl;
  narrow = refl;
  narrow_halved = refl;
  offsets = four;
  turns = ap turned four;
  whole_threshold = refl;
  own_threshold = refl;
}
