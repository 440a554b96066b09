-- A call's answer as C gets it: a refusal number, and values through pointers.
use Rattle.std.specs.Prelude.{ℕ, zero, suc, ℤ, Result, Ok, Err}
use Rattle.rules.specs.declared.Offset.{Offset}

-- what a pointer's place holds after a call with this refusal number: the value, or what it held
abbrev pub value_after : {A : Type 0} → ℕ → A → A → A
value_after zero value before = value
value_after (suc n) value before = before

-- the same after a call with this answer
abbrev pub value_in : {A E : Type 0} → Result A E → A → A
value_in (Ok value) before = value
value_in (Err refusal) before = before

-- an offset from its two numbers
abbrev pub offset : ℤ → ℤ → Offset
offset dx dy = record { dx = dx; dy = dy }
