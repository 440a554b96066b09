-- What an accepted call knows of its sizes, settings and lengths, which is what the cores require.
use Rattle.std.specs.Prelude.{◌≡◌, List, ℕ, ◌+◌, ◌*◌, ◌-◌, ◌/◌, ◌^◌, ◌≤◌, ◌<◌, length, get_or}
use Rattle.rules.specs.declared.Exclusion.{Exclusion}
use Rattle.rules.specs.Limits.{max_side, max_tolerance, max_halvings, max_frames}
use Rattle.rules.specs.Bitmaps.{row_words}
use Rattle.rules.specs.Refusals.{grey_needed}
use Rattle.rules.specs.Levels.{band_in}

-- sizes within their limits
pub record SizeOk (w h : ℕ) : Type 0 where
  pub wide : 0 < w
  pub width : w ≤ max_side
  pub high : 0 < h
  pub height : h ≤ max_side
  pub area : w * h ≤ 16777216
  pub row_of_words : row_words w ≤ 64
  pub bitmap : row_words w * h ≤ 262144

pub record GreyOk (w h raster grey : ℕ) : Type 0 where
  pub size : SizeOk w h
  pub exact : raster ≡ 3 * (w * h)
  pub room : w * h ≤ grey

pub record HalveOk (w h grey out : ℕ) : Type 0 where
  pub size : SizeOk w h
  pub wide : 2 ≤ w
  pub high : 2 ≤ h
  pub exact : grey ≡ w * h
  pub room : w / 2 * (h / 2) ≤ out

pub record ThresholdOk (w h percentile grey : ℕ) : Type 0 where
  pub size : SizeOk w h
  pub least : 1 ≤ percentile
  pub most : percentile ≤ 99
  pub exact : grey ≡ w * h

pub record BitmapsOk (w h tolerance grey thresholds exclusions : ℕ) : Type 0 where
  pub size : SizeOk w h
  pub most : tolerance ≤ max_tolerance
  pub exact : grey ≡ w * h
  pub room1 : row_words w * h ≤ thresholds
  pub room2 : row_words w * h ≤ exclusions

pub record ShiftOk (w h bitmap out : ℕ) : Type 0 where
  pub size : SizeOk w h
  pub exact : bitmap ≡ row_words w * h
  pub room : row_words w * h ≤ out

pub record TotalOk (w h bitmap : ℕ) : Type 0 where
  pub size : SizeOk w h
  pub exact : bitmap ≡ row_words w * h

pub record DifferenceOk (w h threshold1 exclusion1 threshold2 exclusion2 : ℕ) : Type 0 where
  pub size : SizeOk w h
  pub exact1 : threshold1 ≡ row_words w * h
  pub exact2 : exclusion1 ≡ row_words w * h
  pub exact3 : threshold2 ≡ row_words w * h
  pub exact4 : exclusion2 ≡ row_words w * h

-- "A pair has s halvings, 0 to 8": the smallest level still has 4 pixels each way.
pub record ShapeOk (w h s : ℕ) : Type 0 where
  pub size : SizeOk w h
  pub halvings : s ≤ max_halvings
  pub wide : 2 ^ (s + 2) ≤ w
  pub high : 2 ^ (s + 2) ≤ h

-- the percentiles whose thresholds a level takes are from 1 to 99
pub record PercentileOk (exclusion : Exclusion) (percentile : ℕ) : Type 0 where
  pub least : band_in exclusion < percentile
  pub most : percentile + band_in exclusion ≤ 99

pub record PairOk (w h s : ℕ) (exclusion : Exclusion) (percentile first second counts compared grey words : ℕ) : Type 0 where
  pub shape : ShapeOk w h s
  pub percentiles : PercentileOk exclusion percentile
  pub exact1 : first ≡ 3 * (w * h)
  pub exact2 : second ≡ 3 * (w * h)
  pub room1 : 9 * (s + 1) ≤ counts
  pub room2 : 9 * (s + 1) ≤ compared
  pub greys : grey_needed s w h ≤ grey
  pub bitmaps : 6 * (row_words w * h) ≤ words

pub record FramesOk (n r : ℕ) : Type 0 where
  pub least : 0 < n
  pub most : n ≤ max_frames
  pub reference : r < n

pub record SeriesOk (w h s : ℕ) (exclusion : Exclusion) (n r : ℕ) (ps : List ℕ) (rasters offsets counts compared grey words : ℕ) : Type 0 where
  pub shape : ShapeOk w h s
  pub frames : (0 < n) × (n ≤ max_frames)
  pub reference : r < n
  pub percentiles : length ps ≡ n - 1
  pub percentile : (k : ℕ) → k < n - 1 → PercentileOk exclusion (get_or ps k 0)
  pub exact : rasters ≡ n * (3 * (w * h))
  pub room1 : 2 * n ≤ offsets
  pub room2 : 9 * (s + 1) * (n - 1) ≤ counts
  pub room3 : 9 * (s + 1) * (n - 1) ≤ compared
  pub greys : grey_needed s w h ≤ grey
  pub bitmaps : 6 * (row_words w * h) ≤ words
