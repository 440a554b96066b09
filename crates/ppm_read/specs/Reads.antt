-- What the reader and its companion do, said by the grammar of P6 files alone; that the two agree; and what Paper 3 of document 02 kept
-- (proved in proofs/ReadsLaws.antt).
use Rattle.std.specs.Prelude.{◌≡◌, Some, None, List, [], ℕ, ◌≤◌, length, drop, Result, Ok, Err}
use Rattle.rules.specs.Refusals.{raster_length}
use Rattle.rules.specs.Parts.{Place}
use Rattle.p6_whitespace.specs.Whitespace.{White, WhiteOrComment}
use Rattle.p6_header.specs.P6Grammar.{P6}
use Rattle.p6_header.specs.P6Header.{header_of, start_in}
use Rattle.p6_header.specs.ByGrammar.{Tells}
use Rattle.ppm_read.specs.declared.Size.{Size}
use Rattle.ppm_read.specs.P6.{header_refusal, p6_refusal, size_answer, raster_of, RasterCall}

-- the frame of that size, whose raster is the file from place `start` on, and lies there
pub record Answered (file : List ℕ) (w h start : ℕ) : Type 0 where
  pub size : size_answer file ≡ Ok (record { w = w; h = h })
  pub raster : raster_of file ≡ drop start file
  pub begins : start_in (header_of file) ≡ start

-- A file that the grammar does not have is 1. One that it has is 2, 9 or accepted, by its size and by the bytes after its header.
pub record Reads : Type 0 where
  pub none : (file : List ℕ) → Tells WhiteOrComment file None → size_answer file ≡ Err 1
  pub number : (file : List ℕ) (w h start : ℕ) → P6 WhiteOrComment file w h start → p6_refusal file ≡ header_refusal (Some (record { w = w; h = h; start = start })) (length file)
  pub answer : (file : List ℕ) (w h start : ℕ) → P6 WhiteOrComment file w h start → p6_refusal file ≡ 0 → Answered file w h start

-- Reader and companion agree on every file: the part is empty where the companion refuses, else it has as many bytes as that frame's
-- raster, at least one.
abbrev pub agreed : Result Size ℕ → List ℕ → Type 0
agreed (Ok size) part = (length part ≡ raster_length size.w size.h) × (1 ≤ length part)
agreed (Err n) part = part ≡ []

abbrev pub Agree : Type 0
Agree = (file : List ℕ) (place : Place) (part : List ℕ) (part_place : Place) → RasterCall file place part part_place → agreed (size_answer file) part

-- Every file accepted before, by document 01's grammar, is accepted with the same answer.
abbrev pub AcceptedBefore : Type 0
AcceptedBefore = (file : List ℕ) (w h start : ℕ) → P6 White file w h start → header_refusal (Some (record { w = w; h = h; start = start })) (length file) ≡ 0 → Answered file w h start
