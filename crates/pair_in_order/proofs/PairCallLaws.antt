-- The answer as the call gives it.
use Rattle.std.specs.Prelude.{Ok, Err}
use mathlib.Core.Path.{◌≡◌, refl, ap, ◌∙◌}
use mathlib.Core.List.{List}
use Prim.Native.Nat.{ℕ, ◌+◌, ◌*◌, ◌≤◌}
use lib.ListN.{length, get_or, drop}
use Rattle.rules.specs.declared.Offset.{Offset}
use Rattle.rules.specs.declared.Setup.{Setup}
use Rattle.rules.specs.Frames.{frame_of, written_over, SameFrame}
use Rattle.rules.specs.Greys.{grey_frame}
use Rattle.rules.specs.Levels.{rule_of, Aligned}
use Rattle.rules.specs.Buffers.{RowAt}
use Rattle.rules.specs.Calls.{pair_result, PairLeft}
use Rattle.rules.proofs.PairLaws.{pair-ext}
use Rattle.rules.proofs.RefusalLaws.{buffer-refused, answer-refused}
use Rattle.align.specs.Aligns.{Aligns, aligned_in}
use Rattle.rules.proofs.LevelLaws.{counts-length, compared-length}
use Rattle.align.proofs.WrittenLaws.{row_written}

-- the recursion's answer is that of the rasters
module _ (preferred : List Offset) (S : Setup) (first second grey grey' counts counts' compared compared' : List ℕ) (r : Offset)
    (a : SameFrame S.w S.h (frame_of S.w (drop 0 grey)) (grey_frame S.w first))
    (b : SameFrame S.w S.h (frame_of S.w (drop (S.w * S.h) grey)) (grey_frame S.w second))
    (aligns : Aligns preferred S 0 (S.w * S.h) 0 grey grey' counts counts' compared compared' r) where
  same : aligned_in preferred S 0 (S.w * S.h) grey ≡ pair_result preferred S first second
  unfolding pair_result
  same =
      pair-ext preferred (rule_of S.exclusion) S.percentile S.s S.w S.h
      (frame_of S.w (drop 0 grey)) (grey_frame S.w first) (frame_of S.w (drop (S.w * S.h) grey)) (grey_frame S.w second) a b

  pub pair-offset : r ≡ (pair_result preferred S first second).offset
  pair-offset = aligns.offset ∙ ap (λ (x : Aligned). x.offset) same

  -- either list of the answer
  list_written : (list : Aligned → List ℕ) (before after : List ℕ) → length (list (aligned_in preferred S 0 (S.w * S.h) grey)) ≡ 9 * (S.s + 1) → 9 * (S.s + 1) ≤ length before
      → RowAt 0 (λ k. get_or (list (aligned_in preferred S 0 (S.w * S.h) grey)) k 0) before (9 * (S.s + 1)) after
      → after ≡ written_over (list (pair_result preferred S first second)) before
  list_written list before after size room written =
      row_written (list (aligned_in preferred S 0 (S.w * S.h) grey)) before after (9 * (S.s + 1)) size room written
      ∙ ap (λ (x : Aligned). written_over (list x) before) same

  pub pair-counts : 9 * (S.s + 1) ≤ length counts → counts' ≡ written_over (pair_result preferred S first second).counts counts
  pair-counts room =
      list_written (λ a. a.counts) counts counts'
      (counts-length preferred (rule_of S.exclusion) S.percentile S.s S.w S.h (frame_of S.w (drop 0 grey)) (frame_of S.w (drop (S.w * S.h) grey)))
      room aligns.counts_written

  pub pair-compared : 9 * (S.s + 1) ≤ length compared → compared' ≡ written_over (pair_result preferred S first second).compared compared
  pair-compared room =
      list_written (λ a. a.compared) compared compared'
      (compared-length preferred (rule_of S.exclusion) S.percentile S.s S.w S.h (frame_of S.w (drop 0 grey)) (frame_of S.w (drop (S.w * S.h) grey)))
      room aligns.compared_written

-- What a refused call leaves, and an accepted one.
pub refused-left : (n number : ℕ) (result : Aligned) (counts compared grey words : List ℕ) → n ≡ number → (n ≡ 0 → ⊥)
    → PairLeft number result counts counts compared compared grey grey words words (Err n)
refused-left n number result counts compared grey words e l =
    rw (← e) (record {
      answered = answer-refused n result.offset l;
      counts_are = buffer-refused n result.counts counts l;
      compared_are = buffer-refused n result.compared compared l;
      memory_kept = λ f. (refl, refl);
    })

pub accepted-left : (number : ℕ) (result : Aligned) (counts counts' compared compared' grey grey' words words' : List ℕ) (m : Offset) → number ≡ 0
    → m ≡ result.offset → counts' ≡ written_over result.counts counts → compared' ≡ written_over result.compared compared
    → PairLeft number result counts counts' compared compared' grey grey' words words' (Ok m)
accepted-left number result counts counts' compared compared' grey grey' words words' m z o c d =
    rw z (record { answered = ap Ok o; counts_are = c; compared_are = d; memory_kept = λ f. absurd (f refl) })
