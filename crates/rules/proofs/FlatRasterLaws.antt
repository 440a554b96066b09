-- The pair calls' results for flat rasters, since they see them only at their pixels; and document 01's plate.
use mathlib.Core.Path.{◌≡◌, refl, ap, ◌∙◌}
use mathlib.Core.List.{List}
use Prim.Native.Nat.{ℕ, suc, ◌-◌, ◌^◌, ◌≤◌}
use Rattle.rules.specs.Limits.{max_grey}
use Rattle.rules.specs.Greys.{grey_frame}
use Rattle.rules.specs.Levels.{Arrangement, arranged, by_tolerance}
use Rattle.rules.specs.Bitmaps.{row_words}
use Rattle.rules.specs.Refusals.{bad_side, bad_size, bad_halvings, too_small, bad_tolerance, bad_percentile, level_pixels, pair_refusal}
use Rattle.rules.specs.Calls.{tolerance_setup, pair_result}
use Rattle.rules.specs.FlatFrames.{flat, FlatRaster, blank, FlatFrames, FlatPlate}
use Rattle.rules.proofs.LevelLaws.{ward_places, least_move_places, ward-arrangement, least-move-arrangement}
use Rattle.rules.proofs.SkyLaws.{times_step, first_step, least_stays, ward-corner}
use Rattle.rules.proofs.FlatLaws.{flat-pair}
use Rattle.rules.proofs.PairLaws.{pair-ext}

flat_in : (places : List ℕ) (fits : Arrangement places) (w h s tolerance percentile v : ℕ) (first second : List ℕ) → 1 ≤ percentile → percentile ≤ 99 → v ≤ max_grey
    → FlatRaster w h v first → FlatRaster w h v second
    → pair_result (arranged places) (tolerance_setup w h s tolerance percentile) first second ≡ blank s (times_step (2 ^ suc s - 1) (first_step places fits))
unfolding pair_result
flat_in places fits w h s tolerance percentile v first second some most byte one two =
    pair-ext (arranged places) (by_tolerance tolerance) percentile s w h (grey_frame w first) (flat v) (grey_frame w second) (flat v) one two
    ∙ flat-pair places fits tolerance percentile v some most byte s w h

pub flat-frames : FlatFrames
flat-frames w h s tolerance percentile v first second some most byte one two = (
  flat_in least_move_places least-move-arrangement w h s tolerance percentile v first second some most byte one two ∙ ap (blank s) (least_stays (2 ^ suc s - 1)),
  flat_in ward_places ward-arrangement w h s tolerance percentile v first second some most byte one two ∙ ap (blank s) (ward-corner (2 ^ suc s - 1)),
)

pub flat-plate : FlatPlate
unfolding row_words bad_side bad_size bad_halvings too_small bad_tolerance bad_percentile level_pixels pair_refusal
flat-plate = record { accepted = refl; answers = flat-frames 16 16 2 }
