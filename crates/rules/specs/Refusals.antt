-- The refusal number of each call: "the lowest that applies is given, and none otherwise"; 0 is none. A number of document 02 is tested where its paper places it.
-- The conditions see sizes, settings (a series' percentiles among them) and lengths, never a pixel.
use Rattle.std.specs.Prelude.{Bool, true, false, ◌||◌, not, List, [], ◌∷◌, ℕ, zero, suc, ◌+◌, ◌*◌, ◌-◌, ◌/◌, ◌^◌, ltb, eqb, length}
use Rattle.rules.specs.Limits.{max_side, max_tolerance, max_band, max_halvings, max_frames}
use Rattle.rules.specs.Bitmaps.{row_words}

-- the number n when the condition applies, else 0
infix 20 ◌when◌
abbrev pub ◌when◌ : ℕ → Bool → ℕ
n when true = n
n when false = 0

-- the first number that applies
infixr 10 ◌or_else◌
abbrev pub ◌or_else◌ : ℕ → ℕ → ℕ
zero or_else b = b
suc a or_else b = suc a

-- 2. "A width or height is 0 or above 4096."
unfoldable pub bad_side : ℕ → Bool
bad_side n = eqb n 0 || ltb max_side n

unfoldable pub bad_size : ℕ → ℕ → Bool
bad_size w h = bad_side w || bad_side h

-- 3. "s is above 8."
unfoldable pub bad_halvings : ℕ → Bool
bad_halvings s = ltb max_halvings s

-- 4. "A side is below 2^(s+2), or for the halving call below 2."
unfoldable pub too_small : ℕ → ℕ → ℕ → Bool
too_small w h s = ltb w (2 ^ (s + 2)) || ltb h (2 ^ (s + 2))

unfoldable pub unhalvable : ℕ → ℕ → Bool
unhalvable w h = ltb w 2 || ltb h 2

-- 5. "T is above 64."
unfoldable pub bad_tolerance : ℕ → Bool
bad_tolerance tolerance = ltb max_tolerance tolerance

-- the number that refuses a tolerance, 0 where none does
abbrev pub tolerance_refusal : ℕ → ℕ
tolerance_refusal tolerance = 5 when bad_tolerance tolerance

-- 15. "b is above 16, tested in the place of 5" (document 02, Paper 6)
unfoldable pub bad_band : ℕ → Bool
bad_band band = ltb max_band band

-- the number that refuses a band, 0 where none does
abbrev pub band_refusal : ℕ → ℕ
band_refusal band = 15 when bad_band band

-- 6. "N is 0 or above 16."
unfoldable pub bad_frames : ℕ → Bool
bad_frames n = eqb n 0 || ltb max_frames n

-- 7. "r is not below N."
unfoldable pub bad_reference : ℕ → ℕ → Bool
bad_reference n r = not (ltb r n)

-- 8. a percentile "isn't 17, 50 or 83"
unfoldable pub bad_percentile : ℕ → Bool
bad_percentile p = not (eqb p 17 || (eqb p 50 || eqb p 83))

unfoldable pub some_bad_percentile : List ℕ → Bool
some_bad_percentile [] = false
some_bad_percentile (p ∷ ps) = bad_percentile p || some_bad_percentile ps

-- 8. "There are not N−1 percentiles, or one isn't 17, 50 or 83."
unfoldable pub bad_percentiles : ℕ → List ℕ → Bool
bad_percentiles n ps = not (eqb (length ps) (n - 1)) || some_bad_percentile ps

-- 9. "An input slice hasn't exactly the needed length"
abbrev pub wrong_length : ℕ → ℕ → Bool
wrong_length needed given = not (eqb given needed)

-- 10. "An output slice is shorter than needed"
abbrev pub short : ℕ → ℕ → Bool
short needed given = ltb given needed

-- the lengths of a frame: a raster's bytes, a grey frame's bytes, a bitmap's words
abbrev pub raster_length : ℕ → ℕ → ℕ
raster_length w h = 3 * (w * h)

abbrev pub grey_length : ℕ → ℕ → ℕ
grey_length w h = w * h

abbrev pub bitmap_length : ℕ → ℕ → ℕ
bitmap_length w h = row_words w * h

-- the numbers of a pair's counts, "9·(s+1) 32-bit numbers", and of its compared numbers, "a further buffer of the same length"
abbrev pub counts_length : ℕ → ℕ
counts_length s = 9 * (s + 1)

-- "Lent work memory for pair and series: grey, 2·(sum over levels of width·height) bytes; words, 6·W·h."
unfoldable pub level_pixels : ℕ → ℕ → ℕ → ℕ
level_pixels zero w h = w * h
level_pixels (suc s) w h = w * h + level_pixels s (w / 2) (h / 2)

abbrev pub grey_needed : ℕ → ℕ → ℕ → ℕ
grey_needed s w h = 2 * level_pixels s w h

abbrev pub words_needed : ℕ → ℕ → ℕ
words_needed w h = 6 * bitmap_length w h

-- 11. "Grey or word work memory is shorter than needed."
abbrev pub short_memory : ℕ → ℕ → ℕ → ℕ → ℕ → Bool
short_memory s w h grey words = short (grey_needed s w h) grey || short (words_needed w h) words

-- Each call's number, from its sizes and settings and the lengths of its slices.

unfoldable pub grey_refusal : ℕ → ℕ → ℕ → ℕ → ℕ
grey_refusal w h raster grey =
    2 when bad_size w h
    or_else 9 when wrong_length (raster_length w h) raster
    or_else 10 when short (grey_length w h) grey

unfoldable pub halve_refusal : ℕ → ℕ → ℕ → ℕ → ℕ
halve_refusal w h grey out =
    2 when bad_size w h
    or_else 4 when unhalvable w h
    or_else 9 when wrong_length (grey_length w h) grey
    or_else 10 when short (grey_length (w / 2) (h / 2)) out

unfoldable pub threshold_refusal : ℕ → ℕ → ℕ → ℕ → ℕ
threshold_refusal w h percentile grey =
    2 when bad_size w h
    or_else 8 when bad_percentile percentile
    or_else 9 when wrong_length (grey_length w h) grey

unfoldable pub bitmaps_refusal : ℕ → ℕ → ℕ → ℕ → ℕ → ℕ → ℕ
bitmaps_refusal w h tolerance grey thresholds exclusions =
    2 when bad_size w h
    or_else 5 when bad_tolerance tolerance
    or_else 9 when wrong_length (grey_length w h) grey
    or_else 10 when (short (bitmap_length w h) thresholds || short (bitmap_length w h) exclusions)

unfoldable pub shift_refusal : ℕ → ℕ → ℕ → ℕ → ℕ
shift_refusal w h bitmap out =
    2 when bad_size w h
    or_else 9 when wrong_length (bitmap_length w h) bitmap
    or_else 10 when short (bitmap_length w h) out

unfoldable pub total_refusal : ℕ → ℕ → ℕ → ℕ
total_refusal w h bitmap =
    2 when bad_size w h
    or_else 9 when wrong_length (bitmap_length w h) bitmap

-- of the first frame's two bitmaps, then the second's
unfoldable pub difference_refusal : ℕ → ℕ → ℕ → ℕ → ℕ → ℕ → ℕ
difference_refusal w h threshold1 exclusion1 threshold2 exclusion2 =
    2 when bad_size w h
    or_else 9 when (wrong_length (bitmap_length w h) threshold1 || (wrong_length (bitmap_length w h) exclusion1
    || (wrong_length (bitmap_length w h) threshold2 || wrong_length (bitmap_length w h) exclusion2)))

-- what refuses a size and a number of halvings, whatever is lent
abbrev pub shape_refusal : ℕ → ℕ → ℕ → ℕ
shape_refusal w h s = 2 when bad_size w h or_else 3 when bad_halvings s or_else 4 when too_small w h s

-- `excluded` is the number that refuses the exclusion setting, 0 where none does.
unfoldable pub pair_refusal : ℕ → ℕ → ℕ → ℕ → ℕ → ℕ → ℕ → ℕ → ℕ → ℕ → ℕ → ℕ
pair_refusal w h s excluded percentile first second counts compared grey words =
    2 when bad_size w h
    or_else 3 when bad_halvings s
    or_else 4 when too_small w h s
    or_else excluded
    or_else 8 when bad_percentile percentile
    or_else 9 when (wrong_length (raster_length w h) first || wrong_length (raster_length w h) second)
    or_else 10 when (short (counts_length s) counts || short (counts_length s) compared)
    or_else 11 when short_memory s w h grey words

unfoldable pub series_refusal : ℕ → ℕ → ℕ → ℕ → ℕ → ℕ → List ℕ → ℕ → ℕ → ℕ → ℕ → ℕ → ℕ → ℕ
series_refusal w h s excluded n r percentiles rasters offsets counts compared grey words =
    2 when bad_size w h
    or_else 3 when bad_halvings s
    or_else 4 when too_small w h s
    or_else excluded
    or_else 6 when bad_frames n
    or_else 7 when bad_reference n r
    or_else 8 when bad_percentiles n percentiles
    or_else 9 when wrong_length (n * raster_length w h) rasters
    or_else 10 when (short (2 * n) offsets || (short (counts_length s * (n - 1)) counts || short (counts_length s * (n - 1)) compared))
    or_else 11 when short_memory s w h grey words
