-- Document 01's number and values for each case of an answer. "An answer is the result or Refused with its number, and then every lent buffer is unchanged."
use Rattle.std.specs.Prelude.{List, ℕ, zero, suc, Result, Ok, Err, ⊤}
use Rattle.rules.specs.Frames.{written_over}

-- the answer for a refusal number, 0 where none applies: the value, or that number
abbrev pub answer_for : {A : Type 0} → ℕ → A → Result A ℕ
answer_for zero value = Ok value
answer_for (suc n) value = Err (suc n)

-- the same of a call whose answer has no value
abbrev pub written : ℕ → Result ⊤ ℕ
written n = answer_for n tt

-- what a lent buffer holds after a call with this refusal number: the output over what it held, or what it held
abbrev pub buffer_after : {A : Type 0} → ℕ → List A → List A → List A
buffer_after zero out before = written_over out before
buffer_after (suc n) out before = before
