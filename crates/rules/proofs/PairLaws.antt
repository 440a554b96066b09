-- A pair's answer sees its two grey frames only at their pixels.
use mathlib.Core.Path.{◌≡◌, ap, ap₂, fun_ext}
use mathlib.Core.List.{List, []}
use Prim.Native.Nat.{ℕ, zero, suc, ◌+◌, ◌*◌, ◌/◌}
use native.Mathlib.Omega.{arith}
use lib.Dec.{leb}
use Rattle.rules.specs.declared.Offset.{Offset}
use Rattle.rules.specs.Limits.{max_grey}
use Rattle.rules.specs.Sums.{one_if}
use Rattle.rules.specs.Frames.{Frame, SameFrame}
use Rattle.rules.specs.Greys.{second_smallest, halved}
use Rattle.rules.specs.Thresholds.{at_most, reaches, least, threshold}
use Rattle.rules.specs.Planes.{threshold_bit}
use Rattle.rules.specs.Levels.{still, added, ExclusionRule, planes_by, level, count_at, compared_at, pair}
use Rattle.rules.proofs.SumLaws.{pixels-ext}
use Rattle.rules.specs.Differences.{SamePlanes}
use Rattle.rules.proofs.DifferenceLaws.{difference-ext, compared-ext}

-- What a pair's answer rests on: relations of frames that give the same planes at a level, and that halving keeps.
pub record Kept (exclusion : ExclusionRule) (percentile : ℕ) (K : ℕ → ℕ → Frame → Frame → Type 0) : Type 0 where
  pub planes : (w h : ℕ) (f g : Frame) → K w h f g → SamePlanes w h (planes_by exclusion percentile w h f) (planes_by exclusion percentile w h g)
  pub halves : (w h : ℕ) (f g : Frame) → K w h f g → K (w / 2) (h / 2) (halved f) (halved g)

module _ (order : List Offset) (exclusion : ExclusionRule) (percentile : ℕ) (K L : ℕ → ℕ → Frame → Frame → Type 0) (k : Kept exclusion percentile K) (l : Kept exclusion percentile L) where
  pub count-by : (w h : ℕ) (a a' b b' : Frame) → K w h a a' → L w h b b'
      → count_at exclusion percentile w h a b ≡ count_at exclusion percentile w h a' b'
  unfolding count_at
  count-by w h a a' b b' p q =
      fun_ext (λ m. difference-ext w h m.dx m.dy
      (planes_by exclusion percentile w h a) (planes_by exclusion percentile w h a') (planes_by exclusion percentile w h b) (planes_by exclusion percentile w h b')
      (k.planes w h a a' p) (l.planes w h b b' q))

  pub compared-by : (w h : ℕ) (a a' b b' : Frame) → K w h a a' → L w h b b'
      → compared_at exclusion percentile w h a b ≡ compared_at exclusion percentile w h a' b'
  unfolding compared_at
  compared-by w h a a' b b' p q =
      fun_ext (λ m. compared-ext w h m.dx m.dy
      (planes_by exclusion percentile w h a) (planes_by exclusion percentile w h a') (planes_by exclusion percentile w h b) (planes_by exclusion percentile w h b')
      (k.planes w h a a' p) (l.planes w h b b' q))

  pub pair-by : (s w h : ℕ) (a a' b b' : Frame) → K w h a a' → L w h b b'
      → pair order exclusion percentile s w h a b ≡ pair order exclusion percentile s w h a' b'
  unfolding pair
  pair-by zero w h a a' b b' p q = λ i. level order (count-by w h a a' b b' p q i) (compared-by w h a a' b b' p q i) still [] []
  pair-by (suc s) w h a a' b b' p q =
      let coarse = pair-by s (w / 2) (h / 2) (halved a) (halved a') (halved b) (halved b') (k.halves w h a a' p) (l.halves w h b b' q) in
      λ i. level order (count-by w h a a' b b' p q i) (compared-by w h a a' b b' p q i) (added (coarse i).offset (coarse i).offset) (coarse i).counts (coarse i).compared

pub threshold-ext : (w h : ℕ) (f g : Frame) → SameFrame w h f g → (p : ℕ) → threshold w h p f ≡ threshold w h p g
unfolding threshold reaches at_most
threshold-ext w h f g e p =
    ap (least max_grey)
    (fun_ext (λ v. ap (λ (n : ℕ). leb (p * (w * h)) (100 * n))
    (pixels-ext w h (λ x y. one_if (leb (f x y) v)) (λ x y. one_if (leb (g x y) v)) (λ x y k l. ap (λ (a : ℕ). one_if (leb a v)) (e x y k l)))))

pub planes-ext : (exclusion : ExclusionRule) (percentile w h : ℕ) (f g : Frame) → SameFrame w h f g
    → SamePlanes w h (planes_by exclusion percentile w h f) (planes_by exclusion percentile w h g)
unfolding planes_by
planes-ext exclusion percentile w h f g e = record {
  thresholds = λ x y k l. ap₂ threshold_bit (threshold-ext w h f g e percentile) (e x y k l);
  exclusions = λ x y k l. ap₂ (λ (t : ℕ → ℕ) (v : ℕ). exclusion t percentile v) (fun_ext (threshold-ext w h f g e)) (e x y k l);
}

pub halved-ext : (w h : ℕ) (f g : Frame) → SameFrame w h f g → SameFrame (w / 2) (h / 2) (halved f) (halved g)
unfolding halved
halved-ext w h f g e x y k l =
    λ i. second_smallest
    (e (2 * x) (2 * y) (omega arith) (omega arith) i)
    (e (2 * x + 1) (2 * y) (omega arith) (omega arith) i)
    (e (2 * x) (2 * y + 1) (omega arith) (omega arith) i)
    (e (2 * x + 1) (2 * y + 1) (omega arith) (omega arith) i)

-- the same pixels: any order, any exclusion rule
pub same_kept : (exclusion : ExclusionRule) (percentile : ℕ) → Kept exclusion percentile SameFrame
same_kept exclusion percentile = record { planes = planes-ext exclusion percentile; halves = halved-ext }

pub count-ext : (exclusion : ExclusionRule) (percentile w h : ℕ) (a a' b b' : Frame) → SameFrame w h a a' → SameFrame w h b b'
    → count_at exclusion percentile w h a b ≡ count_at exclusion percentile w h a' b'
count-ext exclusion percentile = count-by [] exclusion percentile SameFrame SameFrame (same_kept exclusion percentile) (same_kept exclusion percentile)

pub compared-at-ext : (exclusion : ExclusionRule) (percentile w h : ℕ) (a a' b b' : Frame) → SameFrame w h a a' → SameFrame w h b b'
    → compared_at exclusion percentile w h a b ≡ compared_at exclusion percentile w h a' b'
compared-at-ext exclusion percentile = compared-by [] exclusion percentile SameFrame SameFrame (same_kept exclusion percentile) (same_kept exclusion percentile)

pub pair-ext : (order : List Offset) (exclusion : ExclusionRule) (percentile s w h : ℕ) (a a' b b' : Frame)
    → SameFrame w h a a' → SameFrame w h b b'
    → pair order exclusion percentile s w h a b ≡ pair order exclusion percentile s w h a' b'
pair-ext order exclusion percentile = pair-by order exclusion percentile SameFrame SameFrame (same_kept exclusion percentile) (same_kept exclusion percentile)
