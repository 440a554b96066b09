-- What is known of a live bracket within its limits, and of each accepted call, which is what the cores require.
use Rattle.std.specs.Prelude.{◌≡◌, Bool, false, ℕ, ◌*◌, ◌≤◌, ◌<◌}
use Rattle.rules.specs.declared.Exclusion.{Exclusion}
use Rattle.rules.specs.Limits.{max_tolerance, max_frames}
use Rattle.rules.specs.Bitmaps.{row_words}
use Rattle.rules.specs.Refusals.{grey_needed}
use Rattle.rules.specs.Accepted.{ShapeOk, PercentileOk}
use Rattle.live.specs.declared.Bracket.{Bracket}
use Rattle.live.specs.Held.{held_length}

pub record BracketOk (B : Bracket) : Type 0 where
  pub shape : ShapeOk B.w B.h B.s
  pub tolerance : B.tolerance ≤ max_tolerance
  pub percentile : PercentileOk (Exclusion.Tolerance B.tolerance) B.percentile
  pub frames : B.frames ≤ max_frames

-- `bad` says whether the held memory breaks a limit; the others are lengths.
pub record AddOk (bad : Bool) (B : Bracket) (numbers newest raster grey words : ℕ) : Type 0 where
  pub limits : bad ≡ false
  pub exact1 : numbers ≡ held_length
  pub exact2 : newest ≡ B.w * B.h
  pub exact3 : raster ≡ 3 * (B.w * B.h)
  pub place : B.frames ≤ max_frames → B.frames < max_frames
  pub greys : grey_needed B.s B.w B.h ≤ grey
  pub bitmaps : 6 * (row_words B.w * B.h) ≤ words

pub record DropOk (bad : Bool) (B : Bracket) (numbers newest : ℕ) : Type 0 where
  pub limits : bad ≡ false
  pub exact1 : numbers ≡ held_length
  pub exact2 : newest ≡ B.w * B.h
  pub some : 0 < B.frames

pub record TellOk (bad : Bool) (B : Bracket) (numbers newest offsets : ℕ) : Type 0 where
  pub limits : bad ≡ false
  pub exact1 : numbers ≡ held_length
  pub exact2 : newest ≡ B.w * B.h
  pub room : 2 * B.frames ≤ offsets
