-- An answer told apart into its number and its value, and put together again.
use Rattle.std.specs.Prelude.{◌≡◌, ℕ, zero, suc, Result, Ok, Err, ⊤}
use Rattle.std.proofs.Common.{refl, sym}
use Rattle.rules.specs.declared.Refusal.{Refusal}
use Rattle.rules.specs.RefusalNumbers.{number_of, number_in, coded}
use Rattle.rules.specs.Answers.{answer_for, written}
use Rattle.rules.proofs.RefusalLaws.{refused-answer}
use Rattle.c_answers.specs.Values.{value_after, value_in}

-- the answer from its number and its value, whatever stood behind the pointer
pub answer-again : {A : Type 0} (r : Result A Refusal) (before : A) → answer_for (number_in r) (value_in r before) ≡ coded r
answer-again (Ok value) before = refl
answer-again (Err refusal) before = sym (refused-answer refusal (number_of refusal) before refl)

-- the number and the value of an answer that is a definition's
pub answer-number : {A : Type 0} (r : Result A Refusal) (n : ℕ) (value : A) → coded r ≡ answer_for n value → number_in r ≡ n
answer-number (Ok v) zero value e = refl
answer-number (Ok v) (suc n) value e = cc
answer-number (Err refusal) zero value e = cc
answer-number (Err refusal) (suc n) value e = cc

pub answer-value : {A : Type 0} (r : Result A Refusal) (n : ℕ) (value before : A) → coded r ≡ answer_for n value → value_in r before ≡ value_after n value before
answer-value (Ok v) zero value before e = cc
answer-value (Ok v) (suc n) value before e = cc
answer-value (Err refusal) zero value before e = cc
answer-value (Err refusal) (suc n) value before e = refl

pub written-again : (r : Result ⊤ Refusal) → written (number_in r) ≡ coded r
written-again (Ok value) = refl
written-again (Err refusal) = sym (refused-answer refusal (number_of refusal) tt refl)

-- a refused call leaves what stood behind the pointer
pub value-left : {A : Type 0} (r : Result A Refusal) (before : A) → (number_in r ≡ 0 → ⊥) → value_in r before ≡ before
value-left (Ok value) before l = absurd (l refl)
value-left (Err refusal) before l = refl

-- what an accepted answer tells
pub ok-told : {A : Type 0} (n : ℕ) (value v : A) → Ok v ≡ answer_for n value → (0 ≡ n) × (v ≡ value)
ok-told zero value v e = (refl, cc)
ok-told (suc n) value v e = cc
