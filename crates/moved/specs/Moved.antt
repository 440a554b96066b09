-- Moved frame: "the shift rule on RGB pixels with 0,0,0 outside, any two signed 32-bit numbers".
use Rattle.std.specs.Prelude.{List, ℕ, ◌+◌, ◌*◌, ◌/◌, ◌%◌, length, get_or, ℤ, Result, ⊤}
use Rattle.rules.specs.Frames.{Frame, rows}
use Rattle.rules.specs.Planes.{shifted}
use Rattle.rules.specs.Refusals.{◌when◌, ◌or_else◌, bad_size, wrong_length, short, raster_length}
use Rattle.rules.specs.Calls.{Fills}

-- red, green or blue (c = 0, 1, 2) of a raster's pixels: "rows from the top, three bytes a pixel: R, G, B"
unfoldable pub channel : ℕ → List ℕ → ℕ → Frame
channel w raster c x y = get_or raster (3 * (y * w + x) + c) 0

-- byte i of a row of the moved frame is channel i mod 3 of pixel floor(i/3)
unfoldable pub moved_byte : ℕ → ℕ → ℤ → ℤ → List ℕ → Frame
moved_byte w h dx dy raster i y = shifted w h dx dy (channel w raster (i % 3)) (i / 3) y

unfoldable pub moved_refusal : ℕ → ℕ → ℕ → ℕ → ℕ
moved_refusal w h raster out =
    2 when bad_size w h
    or_else 9 when wrong_length (raster_length w h) raster
    or_else 10 when short (raster_length w h) out

-- what the call leaves
abbrev pub MovedCall : ℕ → ℕ → ℤ → ℤ → List ℕ → List ℕ → List ℕ → Result ⊤ ℕ → Type 0
MovedCall w h dx dy raster out out' r =
    Fills (moved_refusal w h (length raster) (length out)) (rows (3 * w) h (moved_byte w h dx dy raster)) out out' r
