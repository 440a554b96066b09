-- Demand 3 asks for tolerance 0, and needs it: here is a pair of frames, and the same pair re-exposed, that answer differently at tolerance 1.
use Rattle.std.specs.Prelude.{◌≡◌, List, [], ◌∷◌, ◌++◌, ℕ, pos, negsuc, length}
use Rattle.rules.specs.Levels.{ward_order, least_move_order, by_tolerance}
use Rattle.rules.specs.Refusals.{tolerance_refusal, series_refusal}
use Rattle.rules.specs.Series.{Settings, series_answer}
use Rattle.rules.specs.Calls.{tolerance_settings}
use Rattle.rules.specs.Examples.{first_rows, second_rows, colourless}
use Rattle.rules.specs.FlatFrames.{zeros}
use Rattle.reexposure.specs.Reexposure.{Reexposed, Bytes, ByOrder}

-- two frames of 4 by 4, s = 0, T = 1, the first the reference, P = 50
abbrev pub at_tolerance1 : Settings
at_tolerance1 = tolerance_settings 4 4 0 1 2 0 (50 ∷ [])

-- document 01's printed frames by their three grey values, the second one first, so that the picture has slid the other way
abbrev pub exchanged : ℕ → ℕ → ℕ → List ℕ
exchanged dark next bright = colourless (second_rows dark next bright) ++ colourless (first_rows dark next bright)

abbrev pub taken : List ℕ
taken = exchanged 10 20 90

-- "with 10, 20, 90 replaced by 3, 4, 200", in both frames
abbrev pub taken_again : List ℕ
taken_again = exchanged 3 4 200

abbrev pub taken_counts : List ℕ
taken_counts = 8 ∷ 10 ∷ 8 ∷ 6 ∷ 7 ∷ 5 ∷ 0 ∷ 0 ∷ 0 ∷ []

abbrev pub taken_compared : List ℕ
taken_compared = 8 ∷ 10 ∷ 8 ∷ 11 ∷ 14 ∷ 11 ∷ 8 ∷ 11 ∷ 8 ∷ []

abbrev pub taken_again_compared : List ℕ
taken_again_compared = 0 ∷ 0 ∷ 0 ∷ 3 ∷ 4 ∷ 3 ∷ 3 ∷ 4 ∷ 3 ∷ []

-- Both are accepted, in buffers of just the lengths needed, and one is the other re-exposed. The threshold, 20 and 4, leaves out the dark pixels
-- of the second exposure but not those of the first: 3 is within 1 of 4, 10 is not of 20. Then fewer are compared, none of these differ, every count is 0,
-- and the first candidate is taken: by the least move the mount stays where it should go right by 1, in Ward's order it goes left by 1.
pub record DiffersAtTolerance1 : Type 0 where
  pub accepted : series_refusal 4 4 0 (tolerance_refusal 1) 2 0 (50 ∷ []) (length taken) 4 9 9 32 24 ≡ 0
  pub accepted' : series_refusal 4 4 0 (tolerance_refusal 1) 2 0 (50 ∷ []) (length taken_again) 4 9 9 32 24 ≡ 0
  pub bytes : Bytes taken
  pub bytes' : Bytes taken_again
  pub reexposed : Reexposed at_tolerance1 taken taken_again
  pub least_move : series_answer least_move_order at_tolerance1 taken ≡ record { offsets = pos 0 ∷ pos 0 ∷ pos 1 ∷ pos 0 ∷ []; counts = taken_counts; compared = taken_compared }
  pub least_move' : series_answer least_move_order at_tolerance1 taken_again ≡ record { offsets = pos 0 ∷ pos 0 ∷ pos 0 ∷ pos 0 ∷ []; counts = zeros 9; compared = taken_again_compared }
  pub ward : series_answer ward_order at_tolerance1 taken ≡ record { offsets = pos 0 ∷ pos 0 ∷ pos 1 ∷ negsuc 0 ∷ []; counts = taken_counts; compared = taken_compared }
  pub ward' : series_answer ward_order at_tolerance1 taken_again ≡ record { offsets = pos 0 ∷ pos 0 ∷ negsuc 0 ∷ negsuc 0 ∷ []; counts = zeros 9; compared = taken_again_compared }

-- So tolerance 1 is no rule that sees grey values by their order alone, at any percentile. (Both are proved in proofs/Tolerance1Laws.antt.)
abbrev pub OneNotByOrder : Type 0
OneNotByOrder = (percentile : ℕ) → ByOrder (by_tolerance 1) percentile → ⊥
