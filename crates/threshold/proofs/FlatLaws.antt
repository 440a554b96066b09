-- The threshold by the counts of the values, place by place and pixel by pixel is the same.
use mathlib.Core.Path.{◌≡◌, sym, ap, ap₂, ◌∙◌}
use mathlib.Core.List.{List}
use Prim.Native.Nat.{ℕ, ◌+◌, ◌*◌}
use native.Mathlib.Nat.{mul_comm}
use native.Mathlib.Numerals.{add-one}
use native.Mathlib.Omega.{arith}
use lib.Dec.{ltb, leb, leb-suc-suc}
use lib.ListN.{length, get_or}
use Rattle.rules.specs.Limits.{max_grey}
use Rattle.rules.specs.Sums.{one_if, sum}
use Rattle.rules.specs.Frames.{frame_of}
use Rattle.rules.specs.Thresholds.{at_most, reaches, threshold}
use Rattle.rules.proofs.SumLaws.{sum-ext, pixels-flat}
use Rattle.rules.proofs.ThresholdLaws.{least-ext}
use Rattle.histogram.specs.Counts.{total, CountsOf}
use Rattle.histogram.proofs.CountSumLaws.{counts-to}
use Rattle.threshold.specs.Flat.{at_most_in, threshold_in, first_reaching}

-- the walk over the counts of a list gives its threshold
pub walk_is : (percentile : ℕ) (l counts : List ℕ) → CountsOf l counts → first_reaching (percentile * total counts) counts ≡ threshold_in percentile l
unfolding first_reaching threshold_in at_most_in
walk_is percentile l counts c =
    least-ext max_grey (λ v. leb (percentile * total counts) (100 * sum (v + 1) (λ k. get_or counts k 0))) (λ v. leb (percentile * length l) (100 * at_most_in l v))
    (λ v m. ap₂ (λ (n s : ℕ). leb (percentile * n) (100 * s))
    c.all
    (counts-to l counts c.each (v + 1) (omega arith)
    ∙ sum-ext (length l) (λ i. one_if (ltb (get_or l i 0) (v + 1))) (λ i. one_if (leb (get_or l i 0) v))
    (λ i k. ap one_if (ap (λ (j : ℕ). ltb (get_or l i 0) j) (add-one v) ∙ leb-suc-suc (get_or l i 0) v))))

-- the list's threshold is its frame's
pub threshold-flat : (w h percentile : ℕ) (l : List ℕ) → length l ≡ w * h → threshold_in percentile l ≡ threshold w h percentile (frame_of w l)
unfolding threshold_in threshold reaches at_most at_most_in frame_of
threshold-flat w h percentile l e =
    least-ext max_grey (λ v. leb (percentile * length l) (100 * at_most_in l v)) (reaches w h percentile (frame_of w l))
    (λ v m. ap₂ (λ (n s : ℕ). leb (percentile * n) (100 * s)) e (same v))
  where
    same : (v : ℕ) → at_most_in l v ≡ at_most w h (frame_of w l) v
    same v =
        let g : ℕ → ℕ = λ i. one_if (leb (get_or l i 0) v) in
        ap (λ (n : ℕ). sum n g) (e ∙ mul_comm w h) ∙ sym (pixels-flat w h g)
