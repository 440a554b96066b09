-- What each call of the live bracket leaves: its answer, and what each lent buffer holds when it returns, by its step. A slice stands twice, as it was before the call and after it.
use Rattle.std.specs.Prelude.{◌≡◌, List, ℕ, zero, suc, ℤ, length, Result, ⊤, Ok, Err}
use Rattle.rules.specs.declared.Offset.{Offset}
use Rattle.rules.specs.Answers.{written, buffer_after, answer_for}
use Rattle.live.specs.Held.{memory_of}
use Rattle.live.specs.Steps.{Call, Step, step}

-- what a call with this step leaves of the two held slices
pub record Leaves (s : Step) (numbers' : List ℤ) (newest' : List ℕ) (r : Result ⊤ ℕ) : Type 0 where
  pub answered : r ≡ written s.reply.number
  pub memory_is : memory_of numbers' newest' ≡ s.memory

abbrev pub StartCall : List Offset → ℕ → ℕ → ℕ → ℕ → ℕ → List ℤ → List ℤ → List ℕ → List ℕ → Result ⊤ ℕ → Type 0
StartCall order w h s tolerance percentile numbers numbers' newest newest' r =
    Leaves (step order (memory_of numbers newest) (Call.Start w h s tolerance percentile)) numbers' newest' r

-- with the work memory, which a refused call leaves as it was
pub record LeavesWork (s : Step) (numbers' : List ℤ) (newest' grey grey' words words' : List ℕ) (r : Result ⊤ ℕ) : Type 0 where
  pub held : Leaves s numbers' newest' r
  pub memory_kept : (s.reply.number ≡ 0 → ⊥) → (grey' ≡ grey) × (words' ≡ words)

abbrev pub AddCall : List Offset → List ℕ → List ℤ → List ℤ → List ℕ → List ℕ → List ℕ → List ℕ → List ℕ → List ℕ → Result ⊤ ℕ → Type 0
AddCall order raster numbers numbers' newest newest' grey grey' words words' r =
    LeavesWork (step order (memory_of numbers newest) (Call.Add raster (length grey) (length words))) numbers' newest' grey grey' words words' r

abbrev pub DropCall : List Offset → List ℤ → List ℤ → List ℕ → List ℕ → Result ⊤ ℕ → Type 0
DropCall order numbers numbers' newest newest' r = Leaves (step order (memory_of numbers newest) Call.Drop) numbers' newest' r

-- It is lent the held memory for reading alone.
pub record Tells (s : Step) (offsets offsets' : List ℤ) (r : Result ℕ ℕ) : Type 0 where
  pub answered : r ≡ answer_for s.reply.number s.reply.frames
  pub offsets_are : offsets' ≡ buffer_after s.reply.number s.reply.offsets offsets

abbrev pub TellCall : List Offset → List ℤ → List ℕ → List ℤ → List ℤ → Result ℕ ℕ → Type 0
TellCall order numbers newest offsets offsets' r = Tells (step order (memory_of numbers newest) (Call.Tell (length offsets))) offsets offsets' r
