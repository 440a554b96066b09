-- For each call of the aligner one definition of what it leaves: its answer, and what each lent buffer holds when it returns, from the call's inputs alone.
use Rattle.std.specs.Prelude.{◌≡◌, List, ℕ, ◌/◌, length, ℤ, Result, ⊤}
use Rattle.rules.specs.declared.Tally.{Tally}
use Rattle.rules.specs.declared.Offset.{Offset}
use Rattle.rules.specs.declared.Exclusion.{Exclusion}
use Rattle.rules.specs.declared.Setup.{Setup}
use Rattle.rules.specs.Frames.{frame_of, rows}
use Rattle.rules.specs.Greys.{grey_frame, halved}
use Rattle.rules.specs.Thresholds.{threshold}
use Rattle.rules.specs.Planes.{threshold_bit, exclusion_bit, bits_by, shifted, total}
use Rattle.rules.specs.Bitmaps.{bit_at, packed}
use Rattle.rules.specs.Differences.{Planes, difference, compared}
use Rattle.rules.specs.Levels.{Aligned, aligned_by}
use Rattle.rules.specs.Refusals.{grey_refusal, halve_refusal, threshold_refusal, bitmaps_refusal, shift_refusal, total_refusal, difference_refusal}
use Rattle.rules.specs.Refusals.{tolerance_refusal, band_refusal, pair_refusal, series_refusal}
use Rattle.rules.specs.Series.{Settings, Answer, series_answer}
use Rattle.rules.specs.Answers.{answer_for, written, buffer_after}

-- what a call that fills a lent buffer leaves, with this refusal number and this output: its answer, and the buffer before and after it
pub record Fills (number : ℕ) (out before after : List ℕ) (r : Result ⊤ ℕ) : Type 0 where
  pub answered : r ≡ written number
  pub filled : after ≡ buffer_after number out before

-- Grey conversion of a raster into a lent grey frame.
abbrev pub GreyCall : ℕ → ℕ → List ℕ → List ℕ → List ℕ → Result ⊤ ℕ → Type 0
GreyCall w h raster grey grey' r = Fills (grey_refusal w h (length raster) (length grey)) (rows w h (grey_frame w raster)) grey grey' r

-- Halving of a grey frame into a lent one.
abbrev pub HalveCall : ℕ → ℕ → List ℕ → List ℕ → List ℕ → Result ⊤ ℕ → Type 0
HalveCall w h grey out out' r =
    Fills (halve_refusal w h (length grey) (length out)) (rows (w / 2) (h / 2) (halved (frame_of w grey))) out out' r

-- Threshold of a grey frame for a percentile.
abbrev pub threshold_answer : ℕ → ℕ → ℕ → List ℕ → Result ℕ ℕ
threshold_answer w h percentile grey = answer_for (threshold_refusal w h percentile (length grey)) (threshold w h percentile (frame_of w grey))

-- Threshold and exclusion bitmap of a grey frame for a threshold and a tolerance: what is left with this refusal number, and the call.
pub record BitmapsLeft (number w h t tolerance : ℕ) (grey thresholds thresholds' exclusions exclusions' : List ℕ) (r : Result ⊤ ℕ) : Type 0 where
  pub answered : r ≡ written number
  pub thresholds_are : thresholds' ≡ buffer_after number (packed w h (bits_by (threshold_bit t) (frame_of w grey))) thresholds
  pub exclusions_are : exclusions' ≡ buffer_after number (packed w h (bits_by (exclusion_bit t tolerance) (frame_of w grey))) exclusions

abbrev pub BitmapsCall : ℕ → ℕ → ℕ → ℕ → List ℕ → List ℕ → List ℕ → List ℕ → List ℕ → Result ⊤ ℕ → Type 0
BitmapsCall w h t tolerance grey thresholds thresholds' exclusions exclusions' r =
    BitmapsLeft (bitmaps_refusal w h tolerance (length grey) (length thresholds) (length exclusions)) w h t tolerance grey thresholds thresholds' exclusions exclusions' r

-- Shift of a lent bitmap into a lent one.
abbrev pub ShiftCall : ℕ → ℕ → ℤ → ℤ → List ℕ → List ℕ → List ℕ → Result ⊤ ℕ → Type 0
ShiftCall w h dx dy bitmap out out' r =
    Fills (shift_refusal w h (length bitmap) (length out)) (packed w h (shifted w h dx dy (bit_at w h bitmap))) out out' r

-- Total of a lent bitmap.
abbrev pub total_answer : ℕ → ℕ → List ℕ → Result ℕ ℕ
total_answer w h bitmap = answer_for (total_refusal w h (length bitmap)) (total w h (bit_at w h bitmap))

-- Difference count and compared number of two frames' four lent bitmaps.
abbrev pub planes_of : ℕ → ℕ → List ℕ → List ℕ → Planes
planes_of w h threshold exclusion = record { threshold = bit_at w h threshold; exclusion = bit_at w h exclusion }

abbrev pub tally_of : ℕ → ℕ → ℤ → ℤ → Planes → Planes → Tally
tally_of w h dx dy a b = record { count = difference w h dx dy a b; compared = compared w h dx dy a b }

abbrev pub difference_answer : ℕ → ℕ → ℤ → ℤ → List ℕ → List ℕ → List ℕ → List ℕ → Result Tally ℕ
difference_answer w h dx dy threshold1 exclusion1 threshold2 exclusion2 =
    answer_for (difference_refusal w h (length threshold1) (length exclusion1) (length threshold2) (length exclusion2))
    (tally_of w h dx dy (planes_of w h threshold1 exclusion1) (planes_of w h threshold2 exclusion2))

-- Pair alignment of two rasters. Document 01's setup leaves pixels out by a tolerance.
abbrev pub tolerance_setup : ℕ → ℕ → ℕ → ℕ → ℕ → Setup
tolerance_setup w h s tolerance percentile = record { w = w; h = h; s = s; percentile = percentile; exclusion = Exclusion.Tolerance tolerance }

-- "an alignment, pair and series, with a band b from 0 to 16 in place of T" (document 02, Paper 6)
abbrev pub band_setup : ℕ → ℕ → ℕ → ℕ → ℕ → Setup
band_setup w h s band percentile = record { w = w; h = h; s = s; percentile = percentile; exclusion = Exclusion.Band band }

-- 5, or 15 "in the place of 5"
abbrev pub exclusion_refusal : Exclusion → ℕ
exclusion_refusal (Exclusion.Tolerance tolerance) = tolerance_refusal tolerance
exclusion_refusal (Exclusion.Band band) = band_refusal band

abbrev pub pair_number : Setup → List ℕ → List ℕ → List ℕ → List ℕ → List ℕ → List ℕ → ℕ
pair_number S first second counts compared grey words =
    pair_refusal S.w S.h S.s (exclusion_refusal S.exclusion) S.percentile
    (length first) (length second) (length counts) (length compared) (length grey) (length words)

-- "the pixel-by-pixel answer": from rasters, sizes and settings alone
unfoldable pub pair_result : List Offset → Setup → List ℕ → List ℕ → Aligned
pair_result order S first second = aligned_by order S (grey_frame S.w first) (grey_frame S.w second)

-- what a pair call with this refusal number and this result leaves: its answer, the counts, the compared numbers, and on refusal its work memory as it was
pub record PairLeft (number : ℕ) (result : Aligned) (counts counts' compared compared' grey grey' words words' : List ℕ) (r : Result Offset ℕ) : Type 0 where
  pub answered : r ≡ answer_for number result.offset
  pub counts_are : counts' ≡ buffer_after number result.counts counts
  pub compared_are : compared' ≡ buffer_after number result.compared compared
  pub memory_kept : (number ≡ 0 → ⊥) → (grey' ≡ grey) × (words' ≡ words)

-- a pair call, in an order of the nine: each lent buffer stands twice, as it was before the call and after it
abbrev pub PairCall : List Offset → Setup → List ℕ → List ℕ → List ℕ → List ℕ → List ℕ → List ℕ → List ℕ → List ℕ → List ℕ → List ℕ → Result Offset ℕ → Type 0
PairCall order S first second counts counts' compared compared' grey grey' words words' r =
    PairLeft (pair_number S first second counts compared grey words) (pair_result order S first second) counts counts' compared compared' grey grey' words words' r

-- Series alignment, by a tolerance and by a band too.
abbrev pub tolerance_settings : ℕ → ℕ → ℕ → ℕ → ℕ → ℕ → List ℕ → Settings
tolerance_settings w h s tolerance n r percentiles =
    record { frames = n; w = w; h = h; halvings = s; exclusion = Exclusion.Tolerance tolerance; reference = r; percentiles = percentiles }

abbrev pub band_settings : ℕ → ℕ → ℕ → ℕ → ℕ → ℕ → List ℕ → Settings
band_settings w h s band n r percentiles =
    record { frames = n; w = w; h = h; halvings = s; exclusion = Exclusion.Band band; reference = r; percentiles = percentiles }

abbrev pub series_number : Settings → List ℕ → List ℤ → List ℕ → List ℕ → List ℕ → List ℕ → ℕ
series_number S rasters offsets counts compared grey words =
    series_refusal S.w S.h S.halvings (exclusion_refusal S.exclusion) S.frames S.reference S.percentiles
    (length rasters) (length offsets) (length counts) (length compared) (length grey) (length words)

-- what a series call with this refusal number and this result leaves
pub record SeriesLeft (number : ℕ) (result : Answer) (offsets offsets' : List ℤ) (counts counts' compared compared' grey grey' words words' : List ℕ) (r : Result ⊤ ℕ) : Type 0 where
  pub answered : r ≡ written number
  pub offsets_are : offsets' ≡ buffer_after number result.offsets offsets
  pub counts_are : counts' ≡ buffer_after number result.counts counts
  pub compared_are : compared' ≡ buffer_after number result.compared compared
  pub memory_kept : (number ≡ 0 → ⊥) → (grey' ≡ grey) × (words' ≡ words)

abbrev pub SeriesCall : List Offset → Settings → List ℕ → List ℤ → List ℤ → List ℕ → List ℕ → List ℕ → List ℕ → List ℕ → List ℕ → List ℕ → List ℕ → Result ⊤ ℕ → Type 0
SeriesCall order S rasters offsets offsets' counts counts' compared compared' grey grey' words words' r =
    SeriesLeft (series_number S rasters offsets counts compared grey words) (series_answer order S rasters)
    offsets offsets' counts counts' compared compared' grey grey' words words' r
