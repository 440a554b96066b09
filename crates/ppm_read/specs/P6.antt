-- The reader of P6 files, from what their headers say.
use Rattle.std.specs.Prelude.{◌≡◌, Option, Some, None, List, ℕ, zero, suc, ◌-◌, length, drop, Result}
use Rattle.rules.specs.Answers.{answer_for}
use Rattle.rules.specs.Refusals.{◌when◌, ◌or_else◌, bad_size, wrong_length, raster_length}
use Rattle.rules.specs.Parts.{part_or, Place, place_from}
use Rattle.p6_header.specs.declared.Header.{Header}
use Rattle.p6_header.specs.P6Header.{header_of, start_in}
use Rattle.ppm_read.specs.declared.Size.{Size}

-- 1. "The P6 header breaks the rule above or has a largest value other than 255." 2. The size. 9. "raster after the header included"
unfoldable pub header_refusal : Option Header → ℕ → ℕ
header_refusal None bytes = 1
header_refusal (Some header) bytes = 2 when bad_size header.w header.h or_else 9 when wrong_length (raster_length header.w header.h) (bytes - header.start)

unfoldable pub p6_refusal : List ℕ → ℕ
p6_refusal file = header_refusal (header_of file) (length file)

-- the size that a header tells
unfoldable pub size_in : Option Header → Size
size_in None = record { w = 0; h = 0 }
size_in (Some header) = record { w = header.w; h = header.h }

-- The reader's companion: the width and the height, or the refusal number.
abbrev pub size_answer : List ℕ → Result Size ℕ
size_answer file = answer_for (p6_refusal file) (size_in (header_of file))

-- The reader: "hands back the raster as the part of the file's bytes that it is", "an empty part when refused".
abbrev pub raster_of : List ℕ → List ℕ
raster_of file = part_or (p6_refusal file) (drop (start_in (header_of file)) file)

-- what the call leaves for a file that lies at a place: what the part holds, and that it lies just after the header
pub record RasterCall (file : List ℕ) (place : Place) (part : List ℕ) (part_place : Place) : Type 0 where
  pub holds : part ≡ raster_of file
  pub lies : p6_refusal file ≡ 0 → part_place ≡ place_from (start_in (header_of file)) place
