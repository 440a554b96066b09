-- At tolerance 1 a re-exposed pair answers differently: its comparisons by a test over all pixels, its answers by computing the definitions.
use mathlib.Core.Path.{◌≡◌, refl, sym}
use mathlib.Core.Bool.{Bool, true, false, ◌&&◌, true≢false}
use mathlib.Core.List.{List, [], ◌∷◌}
use Prim.Native.Nat.{ℕ, zero, suc, compare, Ordering}
use native.Mathlib.Omega.{arith}
use lib.Dec.{ltb}
use borrow.Author.Tests.{ltb-true}
use Rattle.rules.specs.Sums.{sum, sum_pixels}
use Rattle.rules.specs.Greys.{grey, grey_frame}
use Rattle.rules.specs.Thresholds.{at_most, reaches, least, threshold}
use Rattle.rules.specs.Planes.{threshold_bit, distance, exclusion_bit, within}
use Rattle.rules.specs.Bitmaps.{row_words}
use Rattle.rules.specs.Differences.{differ, keep, with_partner, difference, compared}
use Rattle.rules.specs.Refusals.{bad_side, bad_size, bad_halvings, too_small, bad_tolerance, bad_frames, bad_reference, bad_percentile, some_bad_percentile, bad_percentiles, level_pixels, series_refusal}
use Rattle.rules.specs.Levels.{planes_by, first_least, chosen, level, count_at, compared_at, pair}
use Rattle.rules.specs.Series.{grey_of, pair_of, sum_from, frame_offset, offset_list, joined, answer_of, answer_by, series_answer}
use Rattle.rules.proofs.CaseLaws.{all, and_both, all-at}
use Rattle.reexposure.specs.Reexposure.{Bytes}
use Rattle.reexposure.specs.Tolerance1.{at_tolerance1, taken, taken_again, DiffersAtTolerance1, OneNotByOrder}

abbrev same : Ordering → Ordering → Bool
same Ordering.lt Ordering.lt = true
same Ordering.lt Ordering.eq = false
same Ordering.lt Ordering.gt = false
same Ordering.eq Ordering.lt = false
same Ordering.eq Ordering.eq = true
same Ordering.eq Ordering.gt = false
same Ordering.gt Ordering.lt = false
same Ordering.gt Ordering.eq = false
same Ordering.gt Ordering.gt = true

same-is : (o p : Ordering) → same o p ≡ true → o ≡ p
same-is Ordering.lt Ordering.lt e = refl
same-is Ordering.lt Ordering.eq e = absurd (true≢false (sym e))
same-is Ordering.lt Ordering.gt e = absurd (true≢false (sym e))
same-is Ordering.eq Ordering.lt e = absurd (true≢false (sym e))
same-is Ordering.eq Ordering.eq e = refl
same-is Ordering.eq Ordering.gt e = absurd (true≢false (sym e))
same-is Ordering.gt Ordering.lt e = absurd (true≢false (sym e))
same-is Ordering.gt Ordering.eq e = absurd (true≢false (sym e))
same-is Ordering.gt Ordering.gt e = refl

-- pixels (x,y) and (u,v) of frame k compare alike in both exposures
abbrev alike_at : ℕ → ℕ → ℕ → ℕ → ℕ → Bool
alike_at k x y u v =
    same (compare (grey_of at_tolerance1 taken k x y) (grey_of at_tolerance1 taken k u v))
    (compare (grey_of at_tolerance1 taken_again k x y) (grey_of at_tolerance1 taken_again k u v))

-- (x,y) and every pixel; every pixel of frame k
abbrev alike_to : ℕ → ℕ → ℕ → Bool
alike_to k x y = all 4 (λ u. all 4 (alike_at k x y u))

abbrev alike_in : ℕ → Bool
alike_in k = all 4 (λ x. all 4 (alike_to k x))

all_alike : all 2 alike_in ≡ true
unfolding all grey_of grey_frame grey
all_alike = refl

-- every number of a list is below 256
abbrev all_bytes : List ℕ → Bool
all_bytes [] = true
all_bytes (b ∷ l) = ltb b 256 && all_bytes l

are-bytes : (l : List ℕ) → all_bytes l ≡ true → Bytes l
are-bytes [] e i = omega arith
are-bytes (b ∷ l) e zero = ltb-true b 256 (and_both (ltb b 256) (all_bytes l) e).0
are-bytes (b ∷ l) e (suc i) = are-bytes l (and_both (ltb b 256) (all_bytes l) e).1 i

pub differs-at-tolerance-1 : DiffersAtTolerance1
unfolding sum sum_pixels grey grey_frame at_most reaches least threshold threshold_bit distance exclusion_bit within differ keep with_partner difference compared
    row_words bad_side bad_size bad_halvings too_small bad_tolerance bad_frames bad_reference bad_percentile some_bad_percentile bad_percentiles level_pixels series_refusal
    planes_by first_least chosen level count_at compared_at pair grey_of pair_of sum_from frame_offset offset_list joined answer_of answer_by series_answer
differs-at-tolerance-1 = record {
  accepted = refl;
  accepted' = refl;
  bytes = are-bytes taken refl;
  bytes' = are-bytes taken_again refl;
  reexposed = record {
    alike = λ k i x y u v a b c d.
        let frame = all-at 2 alike_in all_alike k i in
        let pixel = all-at 4 (alike_to k x) (all-at 4 (λ z. all 4 (alike_to k z)) frame x a) y b in
        same-is _ _ (all-at 4 (alike_at k x y u) (all-at 4 (λ z. all 4 (alike_at k x y z)) pixel u c) v d);
  };
  least_move = refl;
  least_move' = refl;
  ward = refl;
  ward' = refl;
}

pub one-not-by-order : OneNotByOrder
unfolding exclusion_bit distance
one-not-by-order percentile b = zero-not-one (b.alike (λ p. 4) (λ p. 20) 3 10 (λ p some most. refl))
  where
    zero-not-one : ◌≡◌ {A = ℕ} 0 1 → ⊥
    zero-not-one e = omega arith
