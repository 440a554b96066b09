-- The refusal number of the quadrants call (document 02, Paper 4), and what an accepted call knows.
use Rattle.std.specs.Prelude.{◌≡◌, ◌||◌, ℕ, ◌*◌, ◌/◌}
use Rattle.rules.specs.declared.Exclusion.{Exclusion}
use Rattle.rules.specs.Refusals.{◌when◌, ◌or_else◌, bad_size, bad_halvings, too_small, bad_percentile, wrong_length, short, raster_length, counts_length, short_memory}
use Rattle.rules.specs.Accepted.{SizeOk, PairOk}

-- dx and dy of each quadrant
abbrev pub numbers_needed : ℕ
numbers_needed = 8

-- "Refusal 4 and the work memory look at a quadrant's size"; 2 looks at the frame, 9 at its rasters. `excluded` is the number that refuses the exclusion setting, 0 where none does.
unfoldable pub quadrants_refusal : ℕ → ℕ → ℕ → ℕ → ℕ → ℕ → ℕ → ℕ → ℕ → ℕ → ℕ
quadrants_refusal w h s excluded percentile first second offsets grey words =
    2 when bad_size w h
    or_else 3 when bad_halvings s
    or_else 4 when too_small (w / 2) (h / 2) s
    or_else excluded
    or_else 8 when bad_percentile percentile
    or_else 9 when (wrong_length (raster_length w h) first || wrong_length (raster_length w h) second)
    or_else 10 when short numbers_needed offsets
    or_else 11 when short_memory s (w / 2) (h / 2) grey words

-- what an accepted call knows: the frame's size and rasters, and that the memory suffices for a pair of a quadrant's size
pub record QuadrantsOk (w h s : ℕ) (exclusion : Exclusion) (percentile first second grey words : ℕ) : Type 0 where
  pub size : SizeOk w h
  pub exact1 : first ≡ 3 * (w * h)
  pub exact2 : second ≡ 3 * (w * h)
  pub quadrant : PairOk (w / 2) (h / 2) s exclusion percentile (raster_length (w / 2) (h / 2)) (raster_length (w / 2) (h / 2)) (counts_length s) (counts_length s) grey words
