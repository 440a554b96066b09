-- A tie that the two orders settle differently, worked out: two frames of 8 by 8 with R = G = B, s = 1, T = 0, P = 50. The median is b, which is left out; the dark pixels a of the first
-- frame and the bright ones c of the second differ where one lies on the other. Halved to 4 by 4 the candidate (1,1) alone has no difference, so the centre is (2,2). Around it two candidates
-- have the least count, 1: (2,1), by the step (0,−1), and (3,2), by (1,0). The least move takes the step (1,0) before (0,−1), Ward's order the other way round. An order with dx and
-- dy exchanged, one by the distance from (0,0) in place of the centre, and the last least in place of the first would all take (2,1).
use Rattle.std.specs.Prelude.{◌≡◌, List, [], ◌∷◌, ℕ, pos}
use Rattle.rules.specs.declared.Offset.{Offset}
use Rattle.rules.specs.Levels.{ward_order, least_move_order, Aligned}
use Rattle.rules.specs.Refusals.{tolerance_refusal, pair_refusal}
use Rattle.rules.specs.Calls.{tolerance_setup, pair_result}
use Rattle.rules.specs.Examples.{colourless}

-- grey rows of the two frames
abbrev pub tied_first : List ℕ
tied_first =
    a ∷ b ∷ b ∷ b ∷ a ∷ b ∷ b ∷ b ∷
    a ∷ b ∷ b ∷ b ∷ b ∷ a ∷ b ∷ b ∷
    b ∷ b ∷ b ∷ a ∷ b ∷ b ∷ b ∷ b ∷
    b ∷ b ∷ a ∷ b ∷ b ∷ a ∷ b ∷ b ∷
    b ∷ b ∷ a ∷ b ∷ b ∷ b ∷ b ∷ b ∷
    b ∷ b ∷ a ∷ b ∷ a ∷ b ∷ b ∷ b ∷
    b ∷ b ∷ b ∷ b ∷ a ∷ b ∷ b ∷ b ∷
    b ∷ b ∷ b ∷ b ∷ b ∷ b ∷ b ∷ b ∷ []
  where
    a : ℕ
    a = 10

    b : ℕ
    b = 20

abbrev pub tied_second : List ℕ
tied_second =
    b ∷ b ∷ c ∷ b ∷ b ∷ b ∷ b ∷ b ∷
    b ∷ c ∷ c ∷ c ∷ b ∷ b ∷ b ∷ b ∷
    b ∷ c ∷ c ∷ b ∷ c ∷ c ∷ b ∷ b ∷
    b ∷ b ∷ c ∷ c ∷ c ∷ b ∷ b ∷ b ∷
    b ∷ b ∷ b ∷ b ∷ b ∷ b ∷ b ∷ b ∷
    b ∷ b ∷ b ∷ b ∷ b ∷ b ∷ b ∷ b ∷
    b ∷ b ∷ b ∷ b ∷ b ∷ b ∷ b ∷ b ∷
    b ∷ b ∷ b ∷ b ∷ b ∷ b ∷ b ∷ b ∷ []
  where
    b : ℕ
    b = 20

    c : ℕ
    c = 90

-- the pair call's result for them in an order
abbrev pub tied_by : List Offset → Aligned
tied_by order = pair_result order (tolerance_setup 8 8 1 0 50) (colourless tied_first) (colourless tied_second)

-- Every pixel that is kept is dark in the first frame and bright in the second, so that all that are compared differ: the compared numbers are the same.
abbrev pub tied_counts : List ℕ
tied_counts = 1 ∷ 2 ∷ 1 ∷ 1 ∷ 1 ∷ 2 ∷ 1 ∷ 1 ∷ 0 ∷ 3 ∷ 4 ∷ 3 ∷ 1 ∷ 2 ∷ 2 ∷ 2 ∷ 1 ∷ 2 ∷ []

-- a call accepts them, in buffers of just the lengths needed, and both orders write the same counts and compared numbers (proved in proofs/ExampleLaws.antt as `tied`)
pub record Tied : Type 0 where
  pub accepted : pair_refusal 8 8 1 (tolerance_refusal 0) 50 192 192 18 18 160 48 ≡ 0
  pub least_move : tied_by least_move_order ≡ record { offset = record { dx = pos 3; dy = pos 2 }; counts = tied_counts; compared = tied_counts }
  pub ward : tied_by ward_order ≡ record { offset = record { dx = pos 2; dy = pos 1 }; counts = tied_counts; compared = tied_counts }
