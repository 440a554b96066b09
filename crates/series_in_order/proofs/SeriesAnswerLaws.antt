-- What the pairs and their sums leave is the series' answer.
use Rattle.std.specs.Prelude.{Ok, Err}
use mathlib.Core.Path.{◌≡◌, refl, ap, ◌∙◌}
use mathlib.Core.List.{List}
use Prim.Native.Nat.{ℕ, ◌-◌, ◌<◌}
use lib.IntN.{ℤ}
use Rattle.rules.specs.declared.Offset.{Offset}
use Rattle.rules.specs.declared.Setup.{Setup}
use Rattle.rules.specs.Frames.{written_over}
use Rattle.rules.specs.Series.{grey_of, pair_of, frame_offset, offset_list, Answer, answer_of, answer_by, series_answer}
use Rattle.rules.specs.Calls.{SeriesLeft}
use Rattle.rules.proofs.RefusalLaws.{buffer-refused, answer-refused}
use Rattle.rules.proofs.SeriesLaws.{frame-list-ext}
use Rattle.offsets.specs.PairOffsets.{pair_offset}
use Rattle.offsets.proofs.PairOffsetLaws.{written-pair}
use Rattle.next_pair.specs.PairRuns.{pairs_of, AllRan}
use Rattle.series_in_order.specs.Settings.{settings_of}

module _ (preferred : List Offset) (S : Setup) (n r : ℕ) (ps rasters : List ℕ) (pairs pairs' : List ℤ) (counts counts' compared compared' : List ℕ)
    (ran : AllRan n (pairs_of preferred S ps rasters) pairs pairs' counts counts' compared compared') where
  pub answer-offsets : (offsets offsets' : List ℤ) → r < n
      → offsets' ≡ written_over (offset_list n (frame_offset (pair_offset pairs') r)) offsets
      → offsets' ≡ written_over (series_answer preferred (settings_of S n r ps) rasters).offsets offsets
  unfolding series_answer answer_by answer_of pair_of grey_of
  answer-offsets offsets offsets' inside e =
      e
      ∙ ap (λ (l : List ℤ). written_over l offsets)
      (frame-list-ext n r (pair_offset pairs') (λ j. (pairs_of preferred S ps rasters j).offset) inside
      (λ j l. rw ran.offsets (written-pair (n - 1) (λ i. (pairs_of preferred S ps rasters i).offset) pairs j l)))

  pub answer-counts : counts' ≡ written_over (series_answer preferred (settings_of S n r ps) rasters).counts counts
  unfolding series_answer answer_by answer_of pair_of grey_of
  answer-counts = ran.counts_written

  pub answer-compared : compared' ≡ written_over (series_answer preferred (settings_of S n r ps) rasters).compared compared
  unfolding series_answer answer_by answer_of pair_of grey_of
  answer-compared = ran.compared_written

-- What a refused call leaves, and an accepted one.
pub refused-left : (n number : ℕ) (result : Answer) (offsets : List ℤ) (counts compared grey words : List ℕ) → n ≡ number → (n ≡ 0 → ⊥)
    → SeriesLeft number result offsets offsets counts counts compared compared grey grey words words (Err n)
refused-left n number result offsets counts compared grey words e l =
    rw (← e) (record {
      answered = answer-refused n tt l;
      offsets_are = buffer-refused n result.offsets offsets l;
      counts_are = buffer-refused n result.counts counts l;
      compared_are = buffer-refused n result.compared compared l;
      memory_kept = λ f. (refl, refl);
    })

pub accepted-left : (number : ℕ) (result : Answer) (offsets offsets' : List ℤ) (counts counts' compared compared' grey grey' words words' : List ℕ) → number ≡ 0
    → offsets' ≡ written_over result.offsets offsets → counts' ≡ written_over result.counts counts → compared' ≡ written_over result.compared compared
    → SeriesLeft number result offsets offsets' counts counts' compared compared' grey grey' words words' (Ok tt)
accepted-left number result offsets offsets' counts counts' compared compared' grey grey' words words' z o c d =
    rw z (record { answered = refl; offsets_are = o; counts_are = c; compared_are = d; memory_kept = λ f. absurd (f refl) })
