-- The writer emits no comment, and writing a frame and then reading it is the identity (proved in proofs/RoundTripLaw.antt).
use Rattle.std.specs.Prelude.{◌≡◌, List, ℕ, length, take, Ok}
use Rattle.p6_whitespace.specs.Whitespace.{White}
use Rattle.p6_header.specs.P6Grammar.{P6}
use Rattle.ppm_read.specs.P6.{size_answer, raster_of}
use Rattle.ppm_write.specs.P6Writes.{header, write_refusal, p6_file, write_out}

-- "The writer emits none": whatever it accepts, it writes a file of document 01's grammar, which has no comments.
abbrev pub EmitsNone : Type 0
EmitsNone = (w h : ℕ) (raster out : List ℕ) → write_refusal w h (length raster) (length out) ≡ 0 → P6 White (p6_file w h raster) w h (length (header w h))

-- Whatever the writer accepts: the bytes that it says it wrote, read again, hold a frame of the same size, and its raster is the same.
abbrev pub RoundTrip : Type 0
RoundTrip = (w h : ℕ) (raster out : List ℕ) → write_refusal w h (length raster) (length out) ≡ 0
    → (size_answer (take (length (p6_file w h raster)) (write_out w h raster out)) ≡ Ok (record { w = w; h = h }))
    × (raster_of (take (length (p6_file w h raster)) (write_out w h raster out)) ≡ raster)
