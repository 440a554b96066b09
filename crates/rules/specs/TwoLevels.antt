-- A pair of two levels, worked out: frames of 8 by 8, the second slid by (1,−2), so that (−1,2) moves it onto the first.
-- An aligner that halves bitmaps in place of grey frames settles on (−2,−1).
use Rattle.std.specs.Prelude.{◌≡◌, [], ◌∷◌, pos, negsuc}
use Rattle.rules.specs.Frames.{Frame, frame_of}
use Rattle.rules.specs.Levels.{ward_order, by_tolerance, Aligned, pair}

abbrev pub still8 : Frame
still8 = frame_of 8 (
    0 ∷ 0 ∷ 9 ∷ 7 ∷ 0 ∷ 8 ∷ 9 ∷ 6 ∷
    6 ∷ 9 ∷ 0 ∷ 1 ∷ 1 ∷ 0 ∷ 9 ∷ 9 ∷
    9 ∷ 6 ∷ 0 ∷ 1 ∷ 9 ∷ 5 ∷ 9 ∷ 0 ∷
    8 ∷ 4 ∷ 2 ∷ 9 ∷ 6 ∷ 0 ∷ 0 ∷ 0 ∷
    8 ∷ 6 ∷ 2 ∷ 9 ∷ 0 ∷ 0 ∷ 9 ∷ 0 ∷
    5 ∷ 9 ∷ 9 ∷ 9 ∷ 0 ∷ 9 ∷ 0 ∷ 3 ∷
    9 ∷ 9 ∷ 1 ∷ 2 ∷ 6 ∷ 9 ∷ 4 ∷ 2 ∷
    9 ∷ 2 ∷ 5 ∷ 3 ∷ 0 ∷ 0 ∷ 1 ∷ 9 ∷ [])

abbrev pub slid8 : Frame
slid8 = frame_of 8 (
    0 ∷ 9 ∷ 6 ∷ 0 ∷ 1 ∷ 9 ∷ 5 ∷ 9 ∷
    3 ∷ 8 ∷ 4 ∷ 2 ∷ 9 ∷ 6 ∷ 0 ∷ 0 ∷
    5 ∷ 8 ∷ 6 ∷ 2 ∷ 9 ∷ 0 ∷ 0 ∷ 9 ∷
    9 ∷ 5 ∷ 9 ∷ 9 ∷ 9 ∷ 0 ∷ 9 ∷ 0 ∷
    7 ∷ 9 ∷ 9 ∷ 1 ∷ 2 ∷ 6 ∷ 9 ∷ 4 ∷
    0 ∷ 9 ∷ 2 ∷ 5 ∷ 3 ∷ 0 ∷ 0 ∷ 1 ∷
    3 ∷ 3 ∷ 9 ∷ 9 ∷ 0 ∷ 6 ∷ 0 ∷ 8 ∷
    3 ∷ 9 ∷ 0 ∷ 6 ∷ 0 ∷ 0 ∷ 8 ∷ 0 ∷ [])

abbrev pub slid_back : Aligned
slid_back = record {
  offset = record { dx = negsuc 0; dy = pos 2 };
  counts = 3 ∷ 2 ∷ 2 ∷ 2 ∷ 5 ∷ 1 ∷ 3 ∷ 2 ∷ 2 ∷ 20 ∷ 0 ∷ 15 ∷ 19 ∷ 22 ∷ 24 ∷ 23 ∷ 21 ∷ 12 ∷ [];
  compared = 6 ∷ 7 ∷ 5 ∷ 9 ∷ 12 ∷ 9 ∷ 5 ∷ 7 ∷ 5 ∷ 43 ∷ 39 ∷ 31 ∷ 49 ∷ 41 ∷ 36 ∷ 43 ∷ 36 ∷ 31 ∷ [];
}

-- s = 1, T = 0, P = 50 (proved in proofs/ExampleLaws.antt)
abbrev pub TwoLevels : Type 0
TwoLevels = pair ward_order (by_tolerance 0) 50 1 8 8 still8 slid8 ≡ slid_back
