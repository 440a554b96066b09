-- P6 files (Netpbm, document "ppm") as they are written, by document 01.
use Rattle.std.specs.Prelude.{◌≡◌, List, [], ◌∷◌, ◌++◌, ℕ, zero, suc, ◌+◌, length, Result, Ok, Err}
use Rattle.text.specs.Digits.{digits}
use Rattle.rules.specs.Refusals.{◌when◌, ◌or_else◌, bad_size, wrong_length, short, raster_length}
use Rattle.rules.specs.Answers.{buffer_after, answer_for}
use Rattle.p6_header.specs.P6Grammar.{magic}

-- The writer: "one byte 10 for each whitespace but a 32 between width and height, no leading zeros".
unfoldable pub header : ℕ → ℕ → List ℕ
header w h = magic ++ (10 ∷ []) ++ digits w ++ (32 ∷ []) ++ digits h ++ (10 ∷ []) ++ digits 255 ++ (10 ∷ [])

abbrev pub p6_file : ℕ → ℕ → List ℕ → List ℕ
p6_file w h raster = header w h ++ raster

unfoldable pub write_refusal : ℕ → ℕ → ℕ → ℕ → ℕ
write_refusal w h raster out =
    2 when bad_size w h
    or_else 9 when wrong_length (raster_length w h) raster
    or_else 10 when short (length (header w h) + raster_length w h) out

-- what the buffer holds after the call
abbrev pub write_out : ℕ → ℕ → List ℕ → List ℕ → List ℕ
write_out w h raster out = buffer_after (write_refusal w h (length raster) (length out)) (p6_file w h raster) out

-- what the writer leaves with this refusal number and this file: it "tells the number of bytes written"
pub record FileLeft (number : ℕ) (file out out' : List ℕ) (r : Result ℕ ℕ) : Type 0 where
  pub answered : r ≡ answer_for number (length file)
  pub filled : out' ≡ buffer_after number file out

abbrev pub WriteCall : ℕ → ℕ → List ℕ → List ℕ → List ℕ → Result ℕ ℕ → Type 0
WriteCall w h raster out out' r = FileLeft (write_refusal w h (length raster) (length out)) (p6_file w h raster) out out' r
