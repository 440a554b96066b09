-- Lists of live bracket calls on one memory, each handed what the one before left: "refused ones included and nothing else writing its memory".
use Rattle.std.specs.Prelude.{List, [], ◌∷◌, ℕ, ◌≤◌, length, take}
use Rattle.rules.specs.declared.Offset.{Offset}
use Rattle.rules.specs.Frames.{written_over}
use Rattle.live.specs.Held.{Memory}
use Rattle.live.specs.Steps.{Call, Reply, step}

-- A call of a list, and how much of the memory it is handed as its two slices: so many numbers and so many bytes, from the beginning. A slice of a wrong length is one of the
-- things by which a call is refused.
pub record Handed : Type 0 where
  pub numbers : ℕ
  pub newest : ℕ
  pub call : Call

abbrev pub slices_of : Memory → Handed → Memory
slices_of m c = record { numbers = take c.numbers m.numbers; newest = take c.newest m.newest }

-- the memory when the call has returned: the slices as it left them, and the rest
abbrev pub after_call : List Offset → Memory → Handed → Memory
after_call order m c =
    let left : Memory = (step order (slices_of m c) c.call).memory in
    record { numbers = written_over left.numbers m.numbers; newest = written_over left.newest m.newest }

-- what the calls of a list answer and write, one after another
unfoldable pub replies : List Offset → Memory → List Handed → List Reply
replies order m [] = []
replies order m (c ∷ cs) = (step order (slices_of m c) c.call).reply ∷ replies order (after_call order m c) cs

-- the memory at the end of a list
unfoldable pub after_all : List Offset → Memory → List Handed → Memory
after_all order m [] = m
after_all order m (c ∷ cs) = after_all order (after_call order m c) cs

-- the memory is as long as every slice handed over
abbrev pub Within : Memory → List Handed → Type 0
Within m [] = Unit {0}
Within m (c ∷ cs) = (c.numbers ≤ length m.numbers) × (c.newest ≤ length m.newest) × Within m cs
