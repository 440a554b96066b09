-- The worked examples come out as document 01 prints them, and so does a tie: each by computing the definitions.
use mathlib.Core.Path.{◌≡◌, refl, ap₂, fun_ext, ◌∙◌}
use mathlib.Core.List.{List, [], ◌∷◌}
use Prim.Native.Nat.{ℕ, zero, suc, ◌+◌, ◌*◌}
use native.Mathlib.Omega.{arith}
use lib.ListN.{get_or}
use Rattle.rules.specs.Sums.{sum, sum_pixels}
use Rattle.rules.specs.Frames.{Frame, frame_of}
use Rattle.rules.specs.Greys.{grey, grey_frame, insert, sorted, second_smallest, halved}
use Rattle.rules.specs.Thresholds.{at_most, reaches, least, threshold}
use Rattle.rules.specs.Planes.{threshold_bit, distance, exclusion_bit, band_bit, bits_by, within}
use Rattle.rules.specs.Bitmaps.{row_words}
use Rattle.rules.specs.Refusals.{bad_side, bad_size, bad_halvings, too_small, bad_tolerance, bad_percentile, level_pixels, pair_refusal}
use Rattle.rules.specs.Differences.{Planes, differ, keep, with_partner, difference, compared}
use Rattle.rules.specs.Levels.{still, ward_order, least_move_order, by_tolerance, planes_by, Aligned, first_least, chosen, level, count_at, compared_at, pair}
use Rattle.rules.specs.declared.Offset.{Offset}
use Rattle.rules.specs.Calls.{pair_result}
use Rattle.rules.specs.Examples.{ExamplesHold, PrintedWhole, one, one_to_four, first_rows, second_rows, colourless, numbers, printed_result, aligned}
use Rattle.rules.specs.TwoLevels.{TwoLevels}
use Rattle.rules.specs.Bands.{Noise}
use Rattle.rules.specs.Ties.{tied_first, tied_second, tied_by, Tied}
use Rattle.rules.specs.FlatFrames.{flat, flat_unmoved, flat_in_corner}

-- the two planes once the threshold is known, so that it is worked out once and not for each pixel
abbrev planes_at : ℕ → Frame → Planes
planes_at t f = record { threshold = bits_by (threshold_bit t) f; exclusion = bits_by (exclusion_bit t 0) f }

planes-known : (f : Frame) (t : ℕ) → threshold 4 4 50 f ≡ t → planes_by (by_tolerance 0) 50 4 4 f ≡ planes_at t f
unfolding planes_by
planes-known f t e = λ i. planes_at (e i) f

-- a raster with R = G = B has the grey rows that it was made of
grey-same : (v : ℕ) → grey v v v ≡ v
unfolding grey
grey-same v = omega arith

colourless-at : (l : List ℕ) (k : ℕ) → grey (get_or (colourless l) (3 * k) 0) (get_or (colourless l) (3 * k + 1) 0) (get_or (colourless l) (3 * k + 2) 0) ≡ get_or l k 0
colourless-at [] k = grey-same 0
colourless-at (v ∷ l) zero = grey-same v
colourless-at (v ∷ l) (suc k) =
    let a : 3 * suc k ≡ suc (suc (suc (3 * k))) = omega arith in
    let b : 3 * suc k + 1 ≡ suc (suc (suc (3 * k + 1))) = omega arith in
    let c : 3 * suc k + 2 ≡ suc (suc (suc (3 * k + 2))) = omega arith in
    (λ i. grey (get_or (colourless (v ∷ l)) (a i) 0) (get_or (colourless (v ∷ l)) (b i) 0) (get_or (colourless (v ∷ l)) (c i) 0)) ∙ colourless-at l k

colourless-frame : (w : ℕ) (l : List ℕ) → grey_frame w (colourless l) ≡ frame_of w l
unfolding grey_frame frame_of
colourless-frame w l = fun_ext (λ x. fun_ext (λ y. colourless-at l (y * w + x)))

-- the one level of two planes
abbrev level_of : Planes → Planes → Aligned
level_of a b = level ward_order (λ m. difference 4 4 m.dx m.dy a b) (λ m. compared 4 4 m.dx m.dy a b) still [] []

case-known : (a b : List ℕ) (s t : ℕ) → threshold 4 4 50 (frame_of 4 a) ≡ s → threshold 4 4 50 (frame_of 4 b) ≡ t
    → level_of (planes_at s (frame_of 4 a)) (planes_at t (frame_of 4 b)) ≡ aligned
    → printed_result a b ≡ aligned
unfolding pair_result pair count_at compared_at
case-known a b s t d e r =
    ap₂ (λ (f g : Frame). pair ward_order (by_tolerance 0) 50 0 4 4 f g) (colourless-frame 4 a) (colourless-frame 4 b)
    ∙ (λ i. level_of (planes-known (frame_of 4 a) s d i) (planes-known (frame_of 4 b) t e i))
    ∙ r

pub printed : printed_result (first_rows 10 20 90) (second_rows 10 20 90) ≡ aligned
unfolding sum sum_pixels frame_of at_most reaches least threshold threshold_bit distance exclusion_bit within differ keep with_partner difference compared first_least chosen level
printed = case-known (first_rows 10 20 90) (second_rows 10 20 90) 20 20 refl refl refl

reexposed : printed_result (first_rows 3 4 200) (second_rows 10 20 90) ≡ aligned
unfolding sum sum_pixels frame_of at_most reaches least threshold threshold_bit distance exclusion_bit within differ keep with_partner difference compared first_least chosen level
reexposed = case-known (first_rows 3 4 200) (second_rows 10 20 90) 4 20 refl refl refl

pub printed-whole : PrintedWhole
printed-whole = (printed, reexposed)

pub examples-hold : ExamplesHold
unfolding sum sum_pixels frame_of grey insert sorted second_smallest at_most reaches least threshold
examples-hold =
    ap₂
    (λ (p r : Aligned).
    one (grey 255 255 255) ∷ one (grey 255 0 0) ∷ one (grey 0 255 0) ∷ one (grey 0 0 255) ∷ one (second_smallest 7 3 9 3)
    ∷ one (threshold 4 1 50 one_to_four) ∷ one (threshold 4 1 17 one_to_four) ∷ one (threshold 4 1 83 one_to_four) ∷ numbers p ∷ numbers r ∷ [])
    printed
    reexposed

pub two-levels : TwoLevels
unfolding sum sum_pixels frame_of insert sorted second_smallest halved at_most reaches least threshold threshold_bit
    distance exclusion_bit within differ keep with_partner difference compared planes_by first_least chosen level count_at compared_at pair
two-levels = refl

pub noise : Noise
unfolding sum sum_pixels frame_of insert sorted second_smallest halved at_most reaches least threshold threshold_bit
    band_bit within differ keep with_partner difference compared planes_by first_least chosen level count_at compared_at pair
noise = record { by_rank = refl; without = refl }

-- a tie by both orders, on the grey rows
tied-rows : (order : List Offset) → tied_by order ≡ pair order (by_tolerance 0) 50 1 8 8 (frame_of 8 tied_first) (frame_of 8 tied_second)
unfolding pair_result
tied-rows order = ap₂ (λ (f g : Frame). pair order (by_tolerance 0) 50 1 8 8 f g) (colourless-frame 8 tied_first) (colourless-frame 8 tied_second)

pub tied : Tied
unfolding row_words bad_side bad_size bad_halvings too_small bad_tolerance bad_percentile level_pixels pair_refusal sum sum_pixels frame_of insert sorted second_smallest halved at_most reaches least threshold threshold_bit
    distance exclusion_bit within differ keep with_partner difference compared planes_by first_least chosen level count_at compared_at pair
tied = record { accepted = refl; least_move = tied-rows least_move_order; ward = tied-rows ward_order }

-- the flat plate at grey 0 by both orders; FlatLaws.antt and FlatRasterLaws.antt have it for every flat frame
flat-computed : (pair least_move_order (by_tolerance 0) 50 2 16 16 (flat 0) (flat 0) ≡ flat_unmoved) × (pair ward_order (by_tolerance 0) 50 2 16 16 (flat 0) (flat 0) ≡ flat_in_corner)
unfolding sum sum_pixels insert sorted second_smallest halved at_most reaches least threshold threshold_bit
    distance exclusion_bit within differ keep with_partner difference compared planes_by first_least chosen level count_at compared_at pair
flat-computed = (refl, refl)
