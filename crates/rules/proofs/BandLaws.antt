-- A band of 0 leaves out the threshold alone, as tolerance 0 does.
use mathlib.Core.Path.{◌≡◌, ap, ap₂, subst, ◌∙◌}
use mathlib.Core.Logic.{⊎_elim}
use mathlib.Core.List.{List}
use Prim.Native.Nat.{ℕ, ◌+◌, ◌-◌, ◌≤◌, ◌<◌, min, max}
use native.Mathlib.Omega.{arith}
use borrow.Author.Tests.{le-leb, lt-leb, lt-ltb, le-ltb}
use Rattle.rules.specs.declared.Offset.{Offset}
use Rattle.rules.specs.Planes.{distance, exclusion_bit, band_bit}
use Rattle.rules.specs.Levels.{ExclusionRule, by_tolerance, by_band, Aligned, pair}
use Rattle.rules.specs.Refusals.{bad_tolerance, bad_band}
use Rattle.rules.specs.Greys.{grey_frame}
use Rattle.rules.specs.Series.{Answer, grey_of, answer_by, series_answer}
use Rattle.rules.specs.Calls.{tolerance_setup, band_setup, pair_number, pair_result, PairLeft, tolerance_settings, band_settings, series_number, SeriesLeft}
use Rattle.rules.specs.Bands.{BandZero}
use Rattle.rules.proofs.SumLaws.{order}

threshold-alone : (t v : ℕ) → band_bit t t v ≡ exclusion_bit t 0 v
unfolding band_bit exclusion_bit distance
threshold-alone t v = ⊎_elim under (λ (l : t ≤ v). ⊎_elim (over l) (same l) (order t v)) (order v t)
  where
    under : v < t → band_bit t t v ≡ exclusion_bit t 0 v
    under l = simp (lt-leb t v l, lt-ltb 0 (max v t - min v t) (omega arith))

    over : t ≤ v → t < v → band_bit t t v ≡ exclusion_bit t 0 v
    over l m = simp (le-leb t v l, lt-leb v t m, lt-ltb 0 (max v t - min v t) (omega arith))

    same : t ≤ v → v ≤ t → band_bit t t v ≡ exclusion_bit t 0 v
    same l m = simp (le-leb t v l, le-leb v t m, le-ltb 0 (max v t - min v t) (omega arith))

rule-at : (t : ℕ → ℕ) (percentile v : ℕ) → by_band 0 t percentile v ≡ by_tolerance 0 t percentile v
rule-at t percentile v =
    let below : percentile - 0 ≡ percentile = omega arith in
    let above : percentile + 0 ≡ percentile = omega arith in
    ap₂ (λ (p q : ℕ). band_bit (t p) (t q) v) below above ∙ threshold-alone (t percentile) v

rule : by_band 0 ≡ by_tolerance 0
rule = λ i t percentile v. rule-at t percentile v i

pairs : (order : List Offset) (w h s percentile : ℕ) (first second : List ℕ)
    → pair_result order (band_setup w h s 0 percentile) first second ≡ pair_result order (tolerance_setup w h s 0 percentile) first second
unfolding pair_result
pairs order w h s percentile first second = ap (λ (e : ExclusionRule). pair order e percentile s w h (grey_frame w first) (grey_frame w second)) rule

series : (order : List Offset) (w h s n r : ℕ) (percentiles F : List ℕ)
    → series_answer order (band_settings w h s 0 n r percentiles) F ≡ series_answer order (tolerance_settings w h s 0 n r percentiles) F
unfolding series_answer answer_by grey_of
series order w h s n r percentiles F = ap (λ (e : ExclusionRule). answer_by order e (tolerance_settings w h s 0 n r percentiles) F) rule

-- neither number refuses 0
pub band-zero : BandZero
unfolding bad_tolerance bad_band
band-zero = record {
  rule = rule;
  pairs = pairs;
  series = series;
  pair_calls = λ order w h s percentile first second counts counts' compared compared' grey grey' words words' r call.
      subst (λ (result : Aligned). PairLeft (pair_number (tolerance_setup w h s 0 percentile) first second counts compared grey words) result counts counts' compared compared' grey grey' words words' r)
      (pairs order w h s percentile first second) call;
  series_calls = λ order w h s n r percentiles F offsets offsets' counts counts' compared compared' grey grey' words words' k call.
      subst (λ (result : Answer). SeriesLeft (series_number (tolerance_settings w h s 0 n r percentiles) F offsets counts compared grey words) result
      offsets offsets' counts counts' compared compared' grey grey' words words' k)
      (series order w h s n r percentiles F) call;
}
