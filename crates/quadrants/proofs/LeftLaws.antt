-- The answer as the call gives it.
use Rattle.rules.specs.Answers.{answer_for}
use Rattle.std.specs.Prelude.{Err}
use mathlib.Core.Path.{◌≡◌, refl, sym, ap, ◌∙◌}
use mathlib.Core.Bool.{Bool}
use mathlib.Core.List.{List}
use Prim.Native.Nat.{ℕ}
use lib.IntN.{ℤ}
use Rattle.rules.specs.declared.Offset.{Offset}
use Rattle.rules.specs.declared.Setup.{Setup}
use Rattle.rules.specs.Frames.{written_over}
use Rattle.rules.proofs.RefusalLaws.{buffer-refused}
use Rattle.rotation.specs.Turns.{turned}
use Rattle.rules.proofs.RefusalLaws.{answer-refused}
use Rattle.four_quadrants.specs.FourOffsets.{four_offsets, coordinates}
use Rattle.quadrants.specs.QuadrantsCalls.{QuadrantsLeft}

-- What a refused call leaves, and an accepted one.
pub refused-left : (n number : ℕ) (four : List Offset) (offsets : List ℤ) (grey words : List ℕ) → n ≡ number → (n ≡ 0 → ⊥)
    → QuadrantsLeft number four offsets offsets grey grey words words (Err n)
refused-left n number four offsets grey words e l =
    rw (← e) (record {
      answered = answer-refused n (turned four) l;
      offsets_are = buffer-refused n (coordinates four) offsets l;
      memory_kept = λ f. (refl, refl);
    })

-- the core's answer, in the order that the call lends
pub accepted-left : (number : ℕ) (preferred order : List Offset) (S : Setup) (first second : List ℕ) (offsets offsets' : List ℤ) (grey grey' words words' : List ℕ) (r t : Bool)
    → number ≡ 0 → preferred ≡ order → r ≡ t → r ≡ turned (four_offsets preferred S first second) → offsets' ≡ written_over (coordinates (four_offsets preferred S first second)) offsets
    → QuadrantsLeft number (four_offsets order S first second) offsets offsets' grey grey' words words' (answer_for 0 t)
accepted-left number preferred order S first second offsets offsets' grey grey' words words' r t z same told e written =
    rw z (record {
      answered = ap (answer_for 0) (sym told ∙ e ∙ ap (λ (o : List Offset). turned (four_offsets o S first second)) same);
      offsets_are = written ∙ ap (λ (o : List Offset). written_over (coordinates (four_offsets o S first second)) offsets) same;
      memory_kept = λ f. absurd (f refl);
    })
