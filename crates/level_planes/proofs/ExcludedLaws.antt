-- A tolerance leaves out an interval around the threshold, a band one between two thresholds.
use mathlib.Core.Path.{◌≡◌, sym, ap, ap₂, ◌∙◌}
use mathlib.Core.Logic.{⊎_elim}
use mathlib.Core.List.{List}
use Prim.Native.Nat.{ℕ, ◌+◌, ◌*◌, ◌-◌, ◌≤◌, ◌<◌, min}
use native.Mathlib.Nat.{mul-le-mul_right}
use native.Mathlib.Omega.{arith}
use lib.Dec.{leb}
use lib.ListN.{length}
use borrow.Author.Tests.{le-leb, lt-leb, lt-ltb, le-ltb, leb-true}
use Rattle.rules.specs.declared.Exclusion.{Exclusion}
use Rattle.rules.specs.Limits.{max_grey}
use Rattle.rules.specs.Planes.{exclusion_bit, band_bit}
use Rattle.rules.proofs.SumLaws.{order}
use Rattle.rules.proofs.ThresholdLaws.{least-rises}
use Rattle.flags.specs.Flags.{outside_bit}
use Rattle.threshold.specs.Flat.{at_most_in, threshold_in}
use Rattle.pack.proofs.OutsideLaws.{exclusion-outside}
use Rattle.level_planes.specs.Excluded.{Excludes}

pub tolerance-excludes : (tolerance t lo hi : ℕ) (thresholds : ℕ → ℕ) (percentile : ℕ) → t ≤ max_grey → t ≡ thresholds percentile
    → lo ≡ t - tolerance → hi ≡ min 255 (t + tolerance)
    → Excludes (Exclusion.Tolerance tolerance) thresholds percentile lo hi
tolerance-excludes tolerance t lo hi thresholds percentile byte at lo-is hi-is = record {
  ordered = omega arith;
  outside = λ v grey.
      ap (λ (u : ℕ). exclusion_bit u tolerance v) (sym at)
      ∙ exclusion-outside t tolerance v grey
      ∙ ap₂ (λ (a b : ℕ). outside_bit a b v) (sym lo-is) (sym hi-is);
}

-- not (lo ≤ v and v ≤ hi) is: v < lo or hi < v
band-outside : (lo hi v : ℕ) → band_bit lo hi v ≡ outside_bit lo hi v
unfolding band_bit outside_bit
band-outside lo hi v = ⊎_elim below (λ (m : lo ≤ v). ⊎_elim (above m) (within m) (order hi v)) (order v lo)
  where
    below : v < lo → band_bit lo hi v ≡ outside_bit lo hi v
    below m = simp (lt-leb lo v m, lt-ltb v lo m)

    above : lo ≤ v → hi < v → band_bit lo hi v ≡ outside_bit lo hi v
    above m n = simp (le-leb lo v m, lt-leb v hi n, le-ltb v lo m, lt-ltb hi v n)

    within : lo ≤ v → v ≤ hi → band_bit lo hi v ≡ outside_bit lo hi v
    within m n = simp (le-leb lo v m, le-leb v hi n, le-ltb v lo m, le-ltb hi v n)

-- thresholds rise with the percentile
threshold-in-rises : (p q : ℕ) (l : List ℕ) → p ≤ q → threshold_in p l ≤ threshold_in q l
unfolding threshold_in
threshold-in-rises p q l more =
    least-rises max_grey (λ v. leb (p * length l) (100 * at_most_in l v)) (λ v. leb (q * length l) (100 * at_most_in l v))
    (λ v e.
    let a = leb-true (q * length l) (100 * at_most_in l v) e in
    let b = mul-le-mul_right {m = p} {n = q} (length l) more in
    le-leb (p * length l) (100 * at_most_in l v) (omega arith))

pub band-excludes : (band percentile lo hi : ℕ) (l : List ℕ) → lo ≡ threshold_in (percentile - band) l → hi ≡ threshold_in (percentile + band) l
    → Excludes (Exclusion.Band band) (λ p. threshold_in p l) percentile lo hi
band-excludes band percentile lo hi l lo-is hi-is =
    rw (lo-is, hi-is) (record {
      ordered = threshold-in-rises (percentile - band) (percentile + band) l (omega arith);
      outside = λ v grey. band-outside (threshold_in (percentile - band) l) (threshold_in (percentile + band) l) v;
    })
