-- The worked examples that document 01 marks P under "Plates to compare", in one table: what a definition gives, and what document 01 prints.
use Rattle.std.specs.Prelude.{◌≡◌, List, [], ◌∷◌, map, ℕ, ℤ, pos, negsuc}
use Rattle.rules.specs.Frames.{Frame, frame_of}
use Rattle.rules.specs.Greys.{grey, second_smallest}
use Rattle.rules.specs.Thresholds.{threshold}
use Rattle.rules.specs.Levels.{ward_order, Aligned}
use Rattle.rules.specs.Calls.{tolerance_setup, pair_result}

pub record Example : Type 0 where
  pub value : List ℤ
  pub printed : List ℤ

abbrev pub one : ℕ → List ℤ
one n = pos n ∷ []

-- "frame 1,2,3,4"
abbrev pub one_to_four : Frame
one_to_four = frame_of 4 (1 ∷ 2 ∷ 3 ∷ 4 ∷ [])

-- the grey rows of the frames that `bracket` prints the alignment of, by their three grey values: dark, next and bright
abbrev pub first_rows : ℕ → ℕ → ℕ → List ℕ
first_rows d n b = d ∷ d ∷ b ∷ b ∷ d ∷ d ∷ b ∷ b ∷ d ∷ d ∷ b ∷ b ∷ d ∷ n ∷ b ∷ b ∷ []

abbrev pub second_rows : ℕ → ℕ → ℕ → List ℕ
second_rows d n b = b ∷ d ∷ d ∷ b ∷ b ∷ d ∷ d ∷ b ∷ b ∷ d ∷ d ∷ b ∷ b ∷ d ∷ n ∷ b ∷ []

-- a raster "with R=G=B"
abbrev pub colourless : List ℕ → List ℕ
colourless [] = []
colourless (v ∷ l) = v ∷ v ∷ v ∷ colourless l

-- dx, dy and the counts of an answer
abbrev pub numbers : Aligned → List ℤ
numbers r = r.offset.dx ∷ r.offset.dy ∷ map pos r.counts

-- "For s=0, T=0, P=50": the result for two rasters of 4 by 4 of the pair call that keeps Ward's order, as `bracket` does (by the least move the offset is (−1,0))
abbrev pub printed_result : List ℕ → List ℕ → Aligned
printed_result a b = pair_result ward_order (tolerance_setup 4 4 0 0 50) (colourless a) (colourless b)

-- "offset -1 -1", "0: 0 0 0 5 7 6 8 10 8"; the compared numbers beside them are ours
abbrev pub aligned : Aligned
aligned = record {
  offset = record { dx = negsuc 0; dy = negsuc 0 };
  counts = 0 ∷ 0 ∷ 0 ∷ 5 ∷ 7 ∷ 6 ∷ 8 ∷ 10 ∷ 8 ∷ [];
  compared = 8 ∷ 11 ∷ 8 ∷ 11 ∷ 14 ∷ 11 ∷ 8 ∷ 10 ∷ 8 ∷ [];
}

abbrev pub examples : List Example
examples =
    -- grey of (255,255,255), (255,0,0), (0,255,0), (0,0,255)
    record { value = one (grey 255 255 255); printed = one 255 }
    ∷ record { value = one (grey 255 0 0); printed = one 53 }
    ∷ record { value = one (grey 0 255 0); printed = one 182 }
    ∷ record { value = one (grey 0 0 255); printed = one 18 }
    -- the second smallest of 7,3,9,3
    ∷ record { value = one (second_smallest 7 3 9 3); printed = one 3 }
    -- the frame's threshold for 50, 17 and 83
    ∷ record { value = one (threshold 4 1 50 one_to_four); printed = one 2 }
    ∷ record { value = one (threshold 4 1 17 one_to_four); printed = one 1 }
    ∷ record { value = one (threshold 4 1 83 one_to_four); printed = one 4 }
    -- the counts and offset printed, and "with 10, 20, 90 replaced by 3, 4, 200 in the first frame only"
    ∷ record { value = numbers (printed_result (first_rows 10 20 90) (second_rows 10 20 90)); printed = numbers aligned }
    ∷ record { value = numbers (printed_result (first_rows 3 4 200) (second_rows 10 20 90)); printed = numbers aligned }
    ∷ []

-- every example of the table comes out as printed (proved in proofs/ExampleLaws.antt)
abbrev pub ExamplesHold : Type 0
ExamplesHold = map (λ e. e.value) examples ≡ map (λ e. e.printed) examples

-- the two printed answers whole, with their compared numbers (proved there as `printed-whole`)
abbrev pub PrintedWhole : Type 0
PrintedWhole = (printed_result (first_rows 10 20 90) (second_rows 10 20 90) ≡ aligned) × (printed_result (first_rows 3 4 200) (second_rows 10 20 90) ≡ aligned)
