-- The rules that see grey values by their order alone: tolerance 0, and every band.
use mathlib.Core.Path.{◌≡◌, refl, sym, ap, ap₂, subst, ◌∙◌}
use mathlib.Core.Bool.{Bool, true, false, ◌&&◌, not}
use mathlib.Core.Logic.{⊎_elim}
use Prim.Native.Nat.compare
use Prim.Native.Nat.{ℕ, zero, suc, ◌+◌, ◌-◌, ◌≤◌, ◌<◌, min, max, compare, Ordering}
use native.Mathlib.Omega.{arith}
use lib.Dec.{leb, ltb, is_le, leb-zero, leb-suc-zero, leb-suc-suc}
use borrow.Author.Tests.{le-leb, lt-leb, lt-ltb, le-ltb}
use Rattle.rules.specs.declared.Exclusion.{Exclusion}
use Rattle.rules.specs.Sums.{one_if}
use Rattle.rules.specs.Planes.{distance, exclusion_bit, band_bit}
use Rattle.rules.specs.Levels.{by_tolerance}
use Rattle.rules.proofs.SumLaws.{order}
use Rattle.reexposure.specs.Reexposure.{ByOrder, ZeroByOrder, BandByOrder, SettingByOrder}

-- A comparison and its two tests tell each other.
is_lt : Ordering → Bool
is_lt Ordering.lt = true
is_lt Ordering.eq = false
is_lt Ordering.gt = false

ltb-is : (a b : ℕ) → ltb a b ≡ is_lt (compare a b)
unfolding is_lt
ltb-is zero zero = refl
ltb-is zero (suc b) = leb-suc-suc 0 b ∙ leb-zero b ∙ sym (ap is_lt (compare.zero-suc b))
ltb-is (suc a) zero = leb-suc-zero (suc a) ∙ sym (ap is_lt (compare.suc-zero a))
ltb-is (suc a) (suc b) = leb-suc-suc (suc a) b ∙ ltb-is a b ∙ sym (ap is_lt (compare.suc-suc a b))

tested : Bool → Bool → Ordering
tested true m = Ordering.lt
tested false true = Ordering.eq
tested false false = Ordering.gt

tested-is : (o : Ordering) → o ≡ tested (is_lt o) (is_le o)
unfolding is_lt tested
tested-is Ordering.lt = refl
tested-is Ordering.eq = refl
tested-is Ordering.gt = refl

pub compare-is : (a b c d : ℕ) → leb a b ≡ leb c d → ltb a b ≡ ltb c d → compare a b ≡ compare c d
compare-is a b c d e f =
    tested-is (compare a b) ∙ ap₂ tested (sym (ltb-is a b) ∙ f ∙ ltb-is c d) e ∙ sym (tested-is (compare c d))

-- a test against a threshold sees how the two compare
darker : (t t' v v' : ℕ) → compare t v ≡ compare t' v' → ltb t v ≡ ltb t' v'
darker t t' v v' e = ltb-is t v ∙ ap is_lt e ∙ sym (ltb-is t' v')

-- At tolerance 0 a pixel is excluded exactly where its grey is the threshold.
apart : Bool → Bool → ℕ
apart true m = 1
apart false true = 0
apart false false = 1

exclusion-apart : (t v : ℕ) → exclusion_bit t 0 v ≡ apart (ltb t v) (leb t v)
unfolding exclusion_bit distance apart
exclusion-apart t v = ⊎_elim over under (order t v)
  where
    over : t < v → one_if (ltb 0 (max v t - min v t)) ≡ apart (ltb t v) (leb t v)
    over l = rw (lt-ltb 0 (max v t - min v t) (omega arith), lt-ltb t v l)

    under : v ≤ t → one_if (ltb 0 (max v t - min v t)) ≡ apart (ltb t v) (leb t v)
    under l = ⊎_elim less same (order v t)
      where
        less : v < t → one_if (ltb 0 (max v t - min v t)) ≡ apart (ltb t v) (leb t v)
        less m = rw (lt-ltb 0 (max v t - min v t) (omega arith), le-ltb t v l, lt-leb t v m)

        same : t ≤ v → one_if (ltb 0 (max v t - min v t)) ≡ apart (ltb t v) (leb t v)
        same m = rw (le-ltb 0 (max v t - min v t) (omega arith), le-ltb t v l, le-leb t v m)

pub zero-by-order : ZeroByOrder
zero-by-order percentile some most = record {
  alike = λ t t' v v' tests.
      exclusion-apart (t percentile) v
      ∙ ap₂ apart (darker (t percentile) (t' percentile) v v' (tests percentile some most)) (ap is_le (tests percentile some most))
      ∙ sym (exclusion-apart (t' percentile) v');
}

-- A grey value is at most the upper threshold where that is not darker.
leb-not : (v t : ℕ) → leb v t ≡ not (ltb t v)
leb-not v t =
    ⊎_elim (λ (l : t < v). lt-leb v t l ∙ sym (ap not (lt-ltb t v l))) (λ (l : v ≤ t). le-leb v t l ∙ sym (ap not (le-ltb t v l))) (order t v)

band-tests : (lo hi v : ℕ) → band_bit lo hi v ≡ one_if (not (leb lo v && not (ltb hi v)))
unfolding band_bit
band-tests lo hi v = ap (λ (b : Bool). one_if (not (leb lo v && b))) (leb-not v hi)

pub band-by-order : BandByOrder
band-by-order band percentile some most = record {
  alike = λ t t' v v' tests.
      let below = tests (percentile - band) (omega arith) (omega arith) in
      let above = tests (percentile + band) (omega arith) most in
      band-tests (t (percentile - band)) (t (percentile + band)) v
      ∙ ap₂ (λ (a b : Bool). one_if (not (a && not b))) (ap is_le below) (darker (t (percentile + band)) (t' (percentile + band)) v v' above)
      ∙ sym (band-tests (t' (percentile - band)) (t' (percentile + band)) v');
}

pub setting-by-order : SettingByOrder
setting-by-order (Exclusion.Tolerance tolerance) percentile e ok =
    subst (λ (n : ℕ). ByOrder (by_tolerance n) percentile) (sym e) (zero-by-order percentile (let l = ok.least in omega arith) (let l = ok.most in omega arith))
setting-by-order (Exclusion.Band band) percentile e ok = band-by-order band percentile ok.least ok.most
