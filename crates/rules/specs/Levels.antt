-- Pair alignment, level by level: candidates, first least, doubling. The order of the nine candidates and the exclusion rule are parameters.
use Rattle.std.specs.Prelude.{◌≡◌, cond, List, [], ◌∷◌, ◌++◌, map, ℕ, zero, suc, ◌+◌, ◌-◌, ◌/◌, ◌≤◌, ◌<◌, eqb, ltb, ℤ, pos, negsuc, nat_abs, ◌+ℤ◌, length, get_or}
use Rattle.rules.specs.declared.Offset.{Offset}
use Rattle.rules.specs.declared.Order.{Order}
use Rattle.rules.specs.declared.Exclusion.{Exclusion}
use Rattle.rules.specs.declared.Setup.{Setup}
use Rattle.rules.specs.Sums.{one_if}
use Rattle.rules.specs.Frames.{Frame}
use Rattle.rules.specs.Greys.{halved}
use Rattle.rules.specs.Thresholds.{threshold}
use Rattle.rules.specs.Planes.{threshold_bit, exclusion_bit, band_bit, bits_by}
use Rattle.rules.specs.Differences.{Planes, difference, compared}

-- "Offset (dx,dy) moves a frame right by dx and down by dy."
abbrev pub still : Offset
still = record { dx = pos 0; dy = pos 0 }

abbrev pub added : Offset → Offset → Offset
added a b = record { dx = a.dx +ℤ b.dx; dy = a.dy +ℤ b.dy }

-- at most n in size on each axis
pub record Near (n : ℕ) (m : Offset) : Type 0 where
  pub dx : nat_abs m.dx ≤ n
  pub dy : nat_abs m.dy ≤ n

-- every offset of a list
abbrev pub Every : (Offset → Type 0) → List Offset → Type 0
Every P [] = Unit {0}
Every P (m ∷ ms) = P m × Every P ms

abbrev step : ℤ → ℤ → Offset
step i j = record { dx = i; dy = j }

-- "i from −1 to 1 outside, j from −1 to 1 inside"
abbrev pub ward_order : List Offset
ward_order =
    step (negsuc 0) (negsuc 0) ∷ step (negsuc 0) (pos 0) ∷ step (negsuc 0) (pos 1)
    ∷ step (pos 0) (negsuc 0) ∷ step (pos 0) (pos 0) ∷ step (pos 0) (pos 1)
    ∷ step (pos 1) (negsuc 0) ∷ step (pos 1) (pos 0) ∷ step (pos 1) (pos 1) ∷ []

-- "prefer the least move: (0,0), (−1,0), (1,0), (0,−1), (0,1), (−1,−1), (−1,1), (1,−1), (1,1) around the centre" (document 02, Paper 1)
abbrev pub least_move_order : List Offset
least_move_order =
    step (pos 0) (pos 0)
    ∷ step (negsuc 0) (pos 0) ∷ step (pos 1) (pos 0) ∷ step (pos 0) (negsuc 0) ∷ step (pos 0) (pos 1)
    ∷ step (negsuc 0) (negsuc 0) ∷ step (negsuc 0) (pos 1) ∷ step (pos 1) (negsuc 0) ∷ step (pos 1) (pos 1) ∷ []

-- the order of the calls that prefer the least move, and of those that keep Ward's
abbrev pub order_of : Order → List Offset
order_of Order.LeastMove = least_move_order
order_of Order.Ward = ward_order

-- An order of the nine in which candidates are preferred, by their places in Ward's order.
abbrev pub arranged : List ℕ → List Offset
arranged places = map (λ k. get_or ward_order k still) places

-- how often a number stands in a list
unfoldable pub times : ℕ → List ℕ → ℕ
times p [] = 0
times p (k ∷ ks) = one_if (eqb k p) + times p ks

-- the nine places, each once: "any fixed order of the nine"
pub record Arrangement (places : List ℕ) : Type 0 where
  pub nine : length places ≡ 9
  pub inside : (j : ℕ) → j < 9 → get_or places j 0 < 9
  pub once : (p : ℕ) → p < 9 → times p places ≡ 1

-- candidate k of the nine around a centre, in Ward's order
abbrev pub candidate_at : Offset → ℕ → Offset
candidate_at centre k = get_or (map (added centre) ward_order) k still

-- its step on an axis, from quotient and remainder of its place by 3
abbrev pub step_of : ℕ → ℤ
step_of zero = negsuc 0
step_of (suc zero) = pos 0
step_of (suc (suc i)) = pos 1

-- A rule for the exclusion bit of a grey value, from the level's thresholds (one for each percentile) and the pair's percentile.
abbrev pub ExclusionRule : Type 0
ExclusionRule = (ℕ → ℕ) → ℕ → ℕ → ℕ

-- document 01's rule: by the tolerance T
abbrev pub by_tolerance : ℕ → ExclusionRule
by_tolerance tolerance thresholds percentile v = exclusion_bit (thresholds percentile) tolerance v

-- document 02's, Paper 6: by the band b, "the thresholds for percentiles P−b and P+b"
abbrev pub by_band : ℕ → ExclusionRule
by_band band thresholds percentile v = band_bit (thresholds (percentile - band)) (thresholds (percentile + band)) v

-- the rule that a setting names
abbrev pub rule_of : Exclusion → ExclusionRule
rule_of (Exclusion.Tolerance tolerance) = by_tolerance tolerance
rule_of (Exclusion.Band band) = by_band band

-- the grey steps that a setting leaves out around a threshold: a band is no number of grey steps
abbrev pub tolerance_in : Exclusion → ℕ
tolerance_in (Exclusion.Tolerance tolerance) = tolerance
tolerance_in (Exclusion.Band band) = 0

-- how far below and above the pair's percentile a setting takes further thresholds
abbrev pub band_in : Exclusion → ℕ
band_in (Exclusion.Tolerance tolerance) = 0
band_in (Exclusion.Band band) = band

-- "Each level takes its threshold afresh": the two planes of a level's grey frame
unfoldable pub planes_by : ExclusionRule → ℕ → ℕ → ℕ → Frame → Planes
planes_by exclusion percentile w h f =
    record {
      threshold = bits_by (threshold_bit (threshold w h percentile f)) f;
      exclusion = bits_by (exclusion (λ p. threshold w h p f) percentile) f;
    }

-- "The first with the least count" of best and the others after it
unfoldable pub first_least : (Offset → ℕ) → Offset → List Offset → Offset
first_least count best [] = best
first_least count best (m ∷ ms) = first_least count (cond (ltb (count m) (count best)) m best) ms

-- the same of a list of candidates
unfoldable pub chosen : (Offset → ℕ) → List Offset → Offset
chosen count [] = still
chosen count (m ∷ ms) = first_least count m ms

-- the answer of a level and those below it: the offset, the counts, "coarsest level first, in candidate order", and the compared numbers "beside the
-- counts, in the same order" (document 02, Paper 2)
pub record Aligned : Type 0 where
  pub offset : Offset
  pub counts : List ℕ
  pub compared : List ℕ

-- "With centre (cx,cy) the nine candidates are (cx+i, cy+j)": the level's answer after the coarser counts and compared numbers.
-- Candidates are preferred in the given order; "counts are still written in the former order", Ward's, and so are compared numbers.
unfoldable pub level : List Offset → (Offset → ℕ) → (Offset → ℕ) → Offset → List ℕ → List ℕ → Aligned
level order count out_of centre counts compared =
    record {
      offset = chosen count (map (added centre) order);
      counts = counts ++ map count (map (added centre) ward_order);
      compared = compared ++ map out_of (map (added centre) ward_order);
    }

-- the difference count of two grey frames at a candidate, "both frames with the same P"
unfoldable pub count_at : ExclusionRule → ℕ → ℕ → ℕ → Frame → Frame → Offset → ℕ
count_at exclusion percentile w h a b m =
    difference w h m.dx m.dy (planes_by exclusion percentile w h a) (planes_by exclusion percentile w h b)

-- their compared number there
unfoldable pub compared_at : ExclusionRule → ℕ → ℕ → ℕ → Frame → Frame → Offset → ℕ
compared_at exclusion percentile w h a b m =
    compared w h m.dx m.dy (planes_by exclusion percentile w h a) (planes_by exclusion percentile w h b)

-- "A level's answer rests on that of the next coarser one, doubled; below the coarsest it is (0,0)." s halvings, so s + 1 levels.
unfoldable pub pair : List Offset → ExclusionRule → ℕ → ℕ → ℕ → ℕ → Frame → Frame → Aligned
pair order exclusion percentile zero w h a b = level order (count_at exclusion percentile w h a b) (compared_at exclusion percentile w h a b) still [] []
pair order exclusion percentile (suc s) w h a b =
    let coarse = pair order exclusion percentile s (w / 2) (h / 2) (halved a) (halved b) in
    level order (count_at exclusion percentile w h a b) (compared_at exclusion percentile w h a b) (added coarse.offset coarse.offset) coarse.counts coarse.compared

-- the answer of two grey frames, aligned as a setup says
abbrev pub aligned_by : List Offset → Setup → Frame → Frame → Aligned
aligned_by order S a b = pair order (rule_of S.exclusion) S.percentile S.s S.w S.h a b
