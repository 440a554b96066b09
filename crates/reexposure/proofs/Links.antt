-- Grey values of two exposures that go together: any two such pairs compare alike. Pairs stay so under halving, and a
-- threshold is seen only through tests that come out alike, so the two exposures have the same bits at every level.
use mathlib.Core.Path.{◌≡◌, sym, ap, ◌∙◌}
use mathlib.Core.Logic.{⊎_elim}
use Prim.Native.Nat.{ℕ, ◌+◌, ◌*◌, ◌/◌, ◌≤◌, ◌<◌, min, max, compare}
use native.Mathlib.Nat.{mul-pos}
use native.Mathlib.Omega.{arith}
use lib.Dec.{leb, ltb, is_le}
use borrow.Author.Tests.{le-leb, lt-leb, lt-ltb, le-ltb, leb-true, leb-false}
use Rattle.rules.specs.Sums.{one_if}
use Rattle.rules.specs.Frames.{Frame}
use Rattle.rules.specs.Greys.{second_smallest, halved}
use Rattle.rules.specs.Thresholds.{at_most, reaches, threshold}
use Rattle.rules.specs.Planes.{threshold_bit}
use Rattle.rules.specs.Levels.{ExclusionRule, planes_by}
use Rattle.reexposure.specs.Reexposure.{ByOrder}
use Rattle.rules.proofs.SumLaws.{order, pixels-ext}
use Rattle.rules.proofs.GreyLaws.{second-formula}
use Rattle.rules.proofs.ThresholdLaws.{threshold-leb, threshold-ltb}
use Rattle.rules.specs.Differences.{SamePlanes}
use Rattle.reexposure.proofs.OrderLaws.{compare-is}

-- Q v v': some pixel has grey v in the one exposure and v' in the other.
pub record Link (Q : ℕ → ℕ → Type 0) : Type 0 where
  pub alike : (v v' u u' : ℕ) → Q v v' → Q u u' → compare v u ≡ compare v' u'
  pub low : (v v' : ℕ) → Q v v' → v ≤ 255
  pub low' : (v v' : ℕ) → Q v v' → v' ≤ 255

-- two frames go together pixel by pixel
abbrev pub Linked : (ℕ → ℕ → Type 0) → ℕ → ℕ → Frame → Frame → Type 0
Linked Q w h g g' = (x y : ℕ) → x < w → y < h → Q (g x y) (g' x y)

module _ (Q : ℕ → ℕ → Type 0) (link : Link Q) where
  same-leb : (v v' u u' : ℕ) → Q v v' → Q u u' → leb v u ≡ leb v' u'
  same-leb v v' u u' p q = ap is_le (link.alike v v' u u' p q)

  -- v < u is not (u ≤ v)
  same-lt : (v v' u u' : ℕ) → Q v v' → Q u u' → v < u → v' < u'
  same-lt v v' u u' p q l = leb-false u' v' (sym (same-leb u u' v v' q p) ∙ lt-leb u v l)

  same-le : (v v' u u' : ℕ) → Q v v' → Q u u' → v ≤ u → v' ≤ u'
  same-le v v' u u' p q l = leb-true v' u' (sym (same-leb v v' u u' p q) ∙ le-leb v u l)

  link-min : (v v' u u' : ℕ) → Q v v' → Q u u' → Q (min v u) (min v' u')
  link-min v v' u u' p q = ⊎_elim one other (order v u)
    where
      one : v < u → Q (min v u) (min v' u')
      one l =
          let m = same-lt v v' u u' p q l in
          let a : min v u ≡ v = omega arith in
          let b : min v' u' ≡ v' = omega arith in
          rw (a, b) p

      other : u ≤ v → Q (min v u) (min v' u')
      other l =
          let m = same-le u u' v v' q p l in
          let a : min v u ≡ u = omega arith in
          let b : min v' u' ≡ u' = omega arith in
          rw (a, b) q

  link-max : (v v' u u' : ℕ) → Q v v' → Q u u' → Q (max v u) (max v' u')
  link-max v v' u u' p q = ⊎_elim one other (order v u)
    where
      one : v < u → Q (max v u) (max v' u')
      one l =
          let m = same-lt v v' u u' p q l in
          let a : max v u ≡ u = omega arith in
          let b : max v' u' ≡ u' = omega arith in
          rw (a, b) q

      other : u ≤ v → Q (max v u) (max v' u')
      other l =
          let m = same-le u u' v v' q p l in
          let a : max v u ≡ v = omega arith in
          let b : max v' u' ≡ v' = omega arith in
          rw (a, b) p

  link-second : (a a' b b' c c' d d' : ℕ) → Q a a' → Q b b' → Q c c' → Q d d' → Q (second_smallest a b c d) (second_smallest a' b' c' d')
  link-second a a' b b' c c' d d' p q r s =
      rw (second-formula a b c d, second-formula a' b' c' d')
      (link-min _ _ _ _
      (link-max _ _ _ _ (link-min a a' b b' p q) (link-min c c' d d' r s))
      (link-min _ _ _ _ (link-max a a' b b' p q) (link-max c c' d d' r s)))

  pub link-halve : (w h : ℕ) (g g' : Frame) → Linked Q w h g g' → Linked Q (w / 2) (h / 2) (halved g) (halved g')
  unfolding halved
  link-halve w h g g' e x y k l =
      link-second _ _ _ _ _ _ _ _
      (e (2 * x) (2 * y) (omega arith) (omega arith))
      (e (2 * x + 1) (2 * y) (omega arith) (omega arith))
      (e (2 * x) (2 * y + 1) (omega arith) (omega arith))
      (e (2 * x + 1) (2 * y + 1) (omega arith) (omega arith))

  -- A threshold's tests against values that go together come out alike.
  module _ (w h percentile : ℕ) (g g' : Frame) (linked : Linked Q w h g g') (some : 1 ≤ percentile) (most : percentile ≤ 99) where
    low : (x y : ℕ) → x < w → y < h → g x y ≤ 255
    low x y k l = link.low (g x y) (g' x y) (linked x y k l)

    low' : (x y : ℕ) → x < w → y < h → g' x y ≤ 255
    low' x y k l = link.low' (g x y) (g' x y) (linked x y k l)

    same-least : (v v' : ℕ) → Q v v' → leb (threshold w h percentile g) v ≡ leb (threshold w h percentile g') v'
    unfolding reaches at_most
    same-least v v' q =
        threshold-leb w h percentile g (omega arith) low v (link.low v v' q)
        ∙ ap (λ (n : ℕ). leb (percentile * (w * h)) (100 * n))
        (pixels-ext w h (λ x y. one_if (leb (g x y) v)) (λ x y. one_if (leb (g' x y) v'))
        (λ x y k l. ap one_if (same-leb (g x y) (g' x y) v v' (linked x y k l) q)))
        ∙ sym (threshold-leb w h percentile g' (omega arith) low' v' (link.low' v v' q))

    same-ltb : (v v' u u' : ℕ) → Q v v' → Q u u' → ltb v u ≡ ltb v' u'
    same-ltb v v' u u' p q =
        ⊎_elim
        (λ (l : v < u). lt-ltb v u l ∙ sym (lt-ltb v' u' (same-lt v v' u u' p q l)))
        (λ (l : u ≤ v). le-ltb v u l ∙ sym (le-ltb v' u' (same-le u u' v v' q p l)))
        (order v u)

    same_above : (v v' : ℕ) → 0 < w * h → Q v v' → ltb (threshold w h percentile g) v ≡ ltb (threshold w h percentile g') v'
    same_above v v' area q =
        let p : 0 < percentile * (w * h) = mul-pos some area in
        threshold-ltb w h percentile g (omega arith) p low v (link.low v v' q)
        ∙ ap (λ (n : ℕ). leb (percentile * (w * h)) (100 * n))
        (pixels-ext w h (λ x y. one_if (ltb (g x y) v)) (λ x y. one_if (ltb (g' x y) v'))
        (λ x y k l. ap one_if (same-ltb (g x y) (g' x y) v v' (linked x y k l) q)))
        ∙ sym (threshold-ltb w h percentile g' (omega arith) p low' v' (link.low' v v' q))

-- an area with a pixel in it
area : (w h x y : ℕ) → x < w → y < h → 0 < w * h
area w h x y k l = mul-pos {m = w} {n = h} (omega arith) (omega arith)

pub same-planes : (Q : ℕ → ℕ → Type 0) → Link Q → (exclusion : ExclusionRule) (percentile w h : ℕ) (g g' : Frame)
    → ByOrder exclusion percentile → 1 ≤ percentile → percentile ≤ 99 → Linked Q w h g g'
    → SamePlanes w h (planes_by exclusion percentile w h g) (planes_by exclusion percentile w h g')
unfolding planes_by threshold_bit
same-planes Q link exclusion percentile w h g g' fair some most linked = record {
  thresholds = λ x y k l. ap one_if (same_above Q link w h percentile g g' linked some most (g x y) (g' x y) (area w h x y k l) (linked x y k l));
  exclusions = λ x y k l.
      fair.alike (λ p. threshold w h p g) (λ p. threshold w h p g') (g x y) (g' x y)
      (λ p a b. compare-is (threshold w h p g) (g x y) (threshold w h p g') (g' x y)
      (same-least Q link w h p g g' linked a b (g x y) (g' x y) (linked x y k l))
      (same_above Q link w h p g g' linked a b (g x y) (g' x y) (area w h x y k l) (linked x y k l)));
}
