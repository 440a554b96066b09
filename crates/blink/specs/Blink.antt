-- Blink row: "row y of the first or the second lent raster, as chosen, handed back as part of that raster".
use Rattle.std.specs.Prelude.{◌≡◌, Bool, ◌||◌, not, cond, List, ℕ, zero, suc, ◌*◌, ltb, length, take, drop, Result, Ok, Err}
use Rattle.rules.specs.Answers.{answer_for}
use Rattle.rules.specs.Refusals.{◌when◌, ◌or_else◌, bad_size, wrong_length, raster_length}
use Rattle.rules.specs.Parts.{part_or, Place, place_from}

-- 14. "A blink row's y is not below h." 9 looks at both rasters, also at the one not chosen.
unfoldable pub blink_refusal : ℕ → ℕ → ℕ → ℕ → ℕ → ℕ
blink_refusal w h y first second =
    2 when bad_size w h
    or_else 9 when (wrong_length (raster_length w h) first || wrong_length (raster_length w h) second)
    or_else 14 when not (ltb y h)

-- where row y begins in a raster of width w, three bytes a pixel
unfoldable pub row_start : ℕ → ℕ → ℕ
row_start w y = y * (3 * w)

-- row y of a raster
abbrev pub raster_row : ℕ → ℕ → List ℕ → List ℕ
raster_row w y raster = take (3 * w) (drop (row_start w y) raster)

-- "handed back as part of that raster", "an empty part when refused"
abbrev pub blink_row : ℕ → ℕ → ℕ → Bool → List ℕ → List ℕ → List ℕ
blink_row w h y other first second =
    part_or (blink_refusal w h y (length first) (length second)) (raster_row w y (cond other second first))

-- what the call leaves for two rasters that lie at places: what the part holds, and that it lies in the chosen one, where the row begins
pub record BlinkCall (w h y : ℕ) (other : Bool) (first : List ℕ) (place1 : Place) (second : List ℕ) (place2 : Place) (part : List ℕ) (part_place : Place) : Type 0 where
  pub holds : part ≡ blink_row w h y other first second
  pub lies : blink_refusal w h y (length first) (length second) ≡ 0 → part_place ≡ place_from (row_start w y) (cond other place2 place1)

-- "its companion on the same inputs gives the number"
abbrev pub blink_answer : ℕ → ℕ → ℕ → List ℕ → List ℕ → Result ℕ ℕ
blink_answer w h y first second = answer_for (blink_refusal w h y (length first) (length second)) (row_start w y)
