-- The number of each refusal, as documents 01 and 02 give it, and an answer with it in place of its refusal.
use Rattle.std.specs.Prelude.{ℕ, Result, Ok, Err}
use Rattle.rules.specs.declared.Refusal.{Refusal}

abbrev pub number_of : Refusal → ℕ
number_of Refusal.Header = 1
number_of Refusal.Size = 2
number_of Refusal.Halvings = 3
number_of Refusal.Small = 4
number_of Refusal.Tolerance = 5
number_of Refusal.Frames = 6
number_of Refusal.Reference = 7
number_of Refusal.Percentile = 8
number_of Refusal.Length = 9
number_of Refusal.Room = 10
number_of Refusal.Memory = 11
number_of Refusal.Offset = 12
number_of Refusal.Apart = 13
number_of Refusal.Row = 14
number_of Refusal.Band = 15
number_of Refusal.Held = 16

-- the number of an answer, 0 where it is no refusal; `number` is that of what refuses
abbrev pub numbered : {A E : Type 0} → (E → ℕ) → Result A E → ℕ
numbered number (Ok value) = 0
numbered number (Err refusal) = number refusal

-- the same where a refusal refuses
abbrev pub number_in : {A : Type 0} → Result A Refusal → ℕ
number_in = numbered number_of

-- an answer as documents 01 and 02 have it: its value, or its refusal's number
abbrev pub coded : {A : Type 0} → Result A Refusal → Result A ℕ
coded (Ok value) = Ok value
coded (Err refusal) = Err (number_of refusal)
