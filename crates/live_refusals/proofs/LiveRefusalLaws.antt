-- The two tests that an add, a drop and a tell have in common, and what they leave to the rest.
use mathlib.Core.Path.{◌≡◌, refl, sym, ◌∙◌}
use mathlib.Core.Bool.{Bool, true, false, ◌||◌}
use mathlib.Core.List.{List}
use Prim.Native.Nat.{ℕ, zero, suc}
use native.Mathlib.Omega.{arith}
use lib.IntN.{ℤ}
use lib.ListN.{length}
use Rattle.rules.specs.Refusals.{◌when◌, ◌or_else◌, wrong_length}
use Rattle.rules.proofs.RefusalLaws.{when-no, or_else-no, length-no}
use Rattle.live.specs.declared.Bracket.{Bracket}
use Rattle.live.specs.Held.{held_length, bracket_of}
use Rattle.live.specs.HeldOk.{BracketOk}
use Rattle.live.specs.Steps.{bad_held}
use Rattle.live.proofs.LimitLaws.{held-ok}

-- A number k of two conditions, the first of a call's: where it is not 0 it is the call's, else the rest is.
first-of-two : (k a b rest : ℕ) → k ≡ a or_else b → (k ≡ 0 → ⊥) → k ≡ a or_else b or_else rest
first-of-two k zero zero rest e l = absurd (l e)
first-of-two k zero (suc b) rest e l = e
first-of-two k (suc a) b rest e l = e

none_of_two : (k a b rest : ℕ) → k ≡ a or_else b → k ≡ 0 → a or_else b or_else rest ≡ rest
none_of_two k zero zero rest e z = refl
none_of_two k zero (suc b) rest e z = absurd (omega arith)
none_of_two k (suc a) b rest e z = absurd (omega arith)

-- 16 for two reasons
pub sixteen-twice : (a b : Bool) (rest : ℕ) → 16 when (a || b) or_else rest ≡ 16 when a or_else 16 when b or_else rest
sixteen-twice true b rest = refl
sixteen-twice false b rest = refl

module _ (held : List ℤ) (k : ℕ) (told : k ≡ 9 when wrong_length held_length (length held) or_else 16 when bad_held held) where
  pub held_first : (k ≡ 0 → ⊥) → (rest : ℕ) → k ≡ 9 when wrong_length held_length (length held) or_else 16 when bad_held held or_else rest
  held_first l rest = first-of-two k (9 when wrong_length held_length (length held)) (16 when bad_held held) rest told l

  module _ (none : k ≡ 0) where
    pub held-pass : (rest : ℕ) → 9 when wrong_length held_length (length held) or_else 16 when bad_held held or_else rest ≡ rest
    held-pass rest = none_of_two k (9 when wrong_length held_length (length held)) (16 when bad_held held) rest told none

    pub held-size : length held ≡ held_length
    held-size = length-no held_length (length held) (or_else-no (9 when wrong_length held_length (length held)) (16 when bad_held held) (sym told ∙ none)).0

    pub held-limits : (B : Bracket) → B ≡ bracket_of held → BracketOk B
    held-limits B e =
        let p = or_else-no (9 when wrong_length held_length (length held)) (16 when bad_held held) (sym told ∙ none) in
        rw e (held-ok held (when-no 16 (bad_held held) (omega arith) p.1)).0
