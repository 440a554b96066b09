-- A series of flat frames: each pair takes the first step of the order at each level.
use mathlib.Core.Path.{◌≡◌, refl, sym, ap, ap₂, ◌∙◌}
use mathlib.Core.List.{List, ◌++◌}
use Prim.Native.Nat.{ℕ, zero, suc, ◌+◌, ◌*◌, ◌-◌, ◌^◌, ◌≤◌, ◌<◌}
use native.Mathlib.Nat.{zero-mul, suc-mul, mul_comm}
use native.Mathlib.Omega.{arith}
use lib.ListN.{get_or}
use Rattle.rules.specs.declared.Offset.{Offset}
use Rattle.rules.specs.Limits.{max_grey}
use Rattle.rules.specs.Frames.{SameFrame}
use Rattle.rules.specs.Levels.{arranged, Arrangement, by_tolerance, Aligned}
use Rattle.rules.specs.Series.{Settings, grey_of, pair_of, joined, answer_of, answer_by, series_answer}
use Rattle.rules.specs.Calls.{tolerance_settings}
use Rattle.rules.specs.FlatFrames.{flat, zeros, blank}
use Rattle.rules.proofs.LevelLaws.{ward_places, least_move_places, ward-arrangement, least-move-arrangement}
use Rattle.rules.proofs.PairLaws.{pair-ext}
use Rattle.rules.proofs.SkyLaws.{times_step, first_step, least_stays, ward-corner}
use Rattle.rules.proofs.FlatLaws.{more-zeros, flat-pair}
use Rattle.reexposure.specs.Reexposure.{Sound}
use Rattle.reexposure.specs.FlatSeries.{FlatAnswers, FlatSeries}
use Rattle.reexposure.proofs.BlankSeriesLaws.{pair_in, series-unmoved, series-reached}

-- pairs whose numbers are all 0
list-flat : (size : ℕ) (lists : ℕ → List ℕ) (n : ℕ) → ((j : ℕ) → j < n → lists j ≡ zeros size) → joined n lists ≡ zeros (n * size)
unfolding joined
list-flat size lists zero e = ap zeros (sym (zero-mul size))
list-flat size lists (suc n) e =
    ap₂ (λ (l m : List ℕ). l ++ m) (list-flat size lists n (λ j l. e j (omega arith))) (e n (omega arith)) ∙ more-zeros (n * size) size ∙ ap zeros (sym (suc-mul n size))

module _ (w h s tolerance n r : ℕ) (percentiles F : List ℕ) (v : ℕ) (sound : Sound (tolerance_settings w h s tolerance n r percentiles)) (byte : v ≤ max_grey)
    (flats : (k : ℕ) → k < n → SameFrame w h (grey_of (tolerance_settings w h s tolerance n r percentiles) F k) (flat v)) where
  abbrev S : Settings
  S = tolerance_settings w h s tolerance n r percentiles

  pair-flat : (places : List ℕ) (fits : Arrangement places) (j : ℕ) → j < n - 1 → pair_in (arranged places) S F j ≡ blank s (times_step (2 ^ suc s - 1) (first_step places fits))
  unfolding pair_of
  pair-flat places fits j l =
      let p : ℕ = get_or percentiles j 0 in
      let range = sound.percentile j (omega arith) in
      pair-ext (arranged places) (by_tolerance tolerance) p s w h (grey_of S F j) (flat v) (grey_of S F (j + 1)) (flat v) (flats j (omega arith)) (flats (j + 1) (omega arith))
      ∙ flat-pair places fits tolerance p v range.0 range.1 byte s w h

  -- a list of each pair
  numbers-flat : (places : List ℕ) → Arrangement places → (list : Aligned → List ℕ) → ((m : Offset) → list (blank s m) ≡ zeros (9 * (s + 1)))
      → joined (n - 1) (λ j. list (pair_in (arranged places) S F j)) ≡ zeros (9 * (s + 1) * (n - 1))
  numbers-flat places fits list e =
      list-flat (9 * (s + 1)) (λ j. list (pair_in (arranged places) S F j)) (n - 1)
      (λ j l. ap list (pair-flat places fits j l) ∙ e (times_step (2 ^ suc s - 1) (first_step places fits)))
      ∙ ap zeros (mul_comm (n - 1) (9 * (s + 1)))

  counts-flat : (places : List ℕ) → Arrangement places → (series_answer (arranged places) S F).counts ≡ zeros (9 * (s + 1) * (n - 1))
  unfolding series_answer answer_by answer_of
  counts-flat places fits = numbers-flat places fits (λ a. a.counts) (λ m. refl)

  compared-flat : (places : List ℕ) → Arrangement places → (series_answer (arranged places) S F).compared ≡ zeros (9 * (s + 1) * (n - 1))
  unfolding series_answer answer_by answer_of
  compared-flat places fits = numbers-flat places fits (λ a. a.compared) (λ m. refl)

  answers : FlatAnswers S F
  answers = record {
    unmoved = series-unmoved (arranged least_move_places) S F sound.reference
        (λ j l. ap (λ (a : Aligned). a.offset) (pair-flat least_move_places least-move-arrangement j l) ∙ least_stays (2 ^ suc s - 1));
    counts = counts-flat least_move_places least-move-arrangement;
    compared = compared-flat least_move_places least-move-arrangement;
    reached = series-reached (arranged ward_places) S F sound.reference
        (λ j l. ap (λ (a : Aligned). a.offset) (pair-flat ward_places ward-arrangement j l) ∙ ward-corner (2 ^ suc s - 1));
    ward_counts = counts-flat ward_places ward-arrangement;
    ward_compared = compared-flat ward_places ward-arrangement;
  }

pub flat-series : FlatSeries
flat-series w h s tolerance n r percentiles F v sound byte flats = answers w h s tolerance n r percentiles F v sound byte flats
