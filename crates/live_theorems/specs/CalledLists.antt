-- THE LAW of the live bracket as a board sees it: what the four functions leave and answer, by nothing but their contracts (`StartCall`, `AddCall`, `DropCall` and
-- `TellCall`, as crates/live_start, live_add, live_drop and live_tell promise them). A slice stands twice, as it was before the call and after it.
use Rattle.std.specs.Prelude.{◌≡◌, List, [], ◌∷◌, ℕ, ◌*◌, ℤ, length, take, Result, ⊤, Ok, Err}
use Rattle.rules.specs.declared.Offset.{Offset}
use Rattle.rules.specs.Frames.{written_over}
use Rattle.live.specs.Held.{Memory}
use Rattle.live.specs.Steps.{Call, Reply, start_number}
use Rattle.live.specs.LiveCalls.{StartCall, AddCall, DropCall, TellCall}
use Rattle.live_theorems.specs.Runs.{Handed, slices_of, Within, replies, after_all}
use Rattle.live_theorems.specs.Sessions.{opened, replies_in, session_after}
use Rattle.live_theorems.specs.LiveLaw.{starting, accepted, HoldsSession}
use Rattle.live_theorems.specs.ReexposedSessions.{AlikeCalls}

-- What a board reads of an answer: the refusal number, 0 where there is none, of how many frames offsets were told, and those offsets. Start, add and drop tell none.
abbrev pub written_reply : Result ⊤ ℕ → Reply
written_reply (Ok tt) = record { number = 0; frames = 0; offsets = [] }
written_reply (Err n) = record { number = n; frames = 0; offsets = [] }

-- those of n frames are the first 2·n numbers of the lent buffer, as it is after the call
abbrev pub told_reply : Result ℕ ℕ → List ℤ → Reply
told_reply (Ok n) offsets' = record { number = 0; frames = n; offsets = take (2 * n) offsets' }
told_reply (Err n) offsets' = record { number = n; frames = 0; offsets = [] }

-- ONE CALL that keeps its contract: the slices that it is handed, the call, the slices that it leaves, and what a board reads of its answer
pub data Called (order : List Offset) : Memory → Call → Memory → Reply → Type 0 where
  started : (m m' : Memory) (w h s tolerance percentile : ℕ) (r : Result ⊤ ℕ)
      → StartCall order w h s tolerance percentile m.numbers m'.numbers m.newest m'.newest r
      → Called order m (Call.Start w h s tolerance percentile) m' (written_reply r)
  added : (m m' : Memory) (raster grey grey' words words' : List ℕ) (r : Result ⊤ ℕ)
      → AddCall order raster m.numbers m'.numbers m.newest m'.newest grey grey' words words' r
      → Called order m (Call.Add raster (length grey) (length words)) m' (written_reply r)
  dropped : (m m' : Memory) (r : Result ⊤ ℕ)
      → DropCall order m.numbers m'.numbers m.newest m'.newest r
      → Called order m Call.Drop m' (written_reply r)
  -- lent the memory for reading alone
  told : (m : Memory) (offsets offsets' : List ℤ) (r : Result ℕ ℕ)
      → TellCall order m.numbers m.newest offsets offsets' r
      → Called order m (Call.Tell (length offsets)) m (told_reply r offsets')

-- the whole memory with the slices as a call left them; the rest of it is no call's
abbrev pub put_back : Memory → Memory → Memory
put_back left m = record { numbers = written_over left.numbers m.numbers; newest = written_over left.newest m.newest }

-- A LIST OF CALLS on one memory, "refused ones included and nothing else writing its memory": the memory before, the calls, the memory at the end, and what a board read.
-- Each call finds what the one before left.
pub data CalledList (order : List Offset) : Memory → List Handed → Memory → List Reply → Type 0 where
  none : (m : Memory) → CalledList order m [] m []
  more : (m left end : Memory) (c : Handed) (cs : List Handed) (r : Reply) (rs : List Reply)
      → Called order (slices_of m c) c.call left r → CalledList order (put_back left m) cs end rs
      → CalledList order m (c ∷ cs) end (r ∷ rs)

-- THE LAW OF CALLS. An accepted start on any memory, whatever it held, and any calls after it: what a board read is what the session answers, so that "the offsets told are
-- those of the series call on the frames then held, in order; on an empty one they are none"; the memory then holds the session's size, settings and number of frames.
-- (proved in proofs/CalledLaws.antt as `law-of-calls`, for every order of the nine, and as `law-of-calls-least` for the calls' own)
abbrev pub LawOfCalls : List Offset → Type 0
LawOfCalls order =
    (m end : Memory) (numbers newest w h s tolerance percentile : ℕ) (cs : List Handed) (rs : List Reply)
    → Within m (starting numbers newest w h s tolerance percentile ∷ cs) → start_number w h s tolerance percentile numbers newest ≡ 0
    → CalledList order m (starting numbers newest w h s tolerance percentile ∷ cs) end rs
    → (rs ≡ accepted ∷ replies_in order (opened w h s tolerance percentile) cs) × HoldsSession (session_after (opened w h s tolerance percentile) cs) end

-- Demand 3 in the same terms: at tolerance 0, a board reads the same of two lists of calls whose rasters are re-exposed frame by frame (`reexposed-calls` and
-- `reexposed-calls-least`, there).
abbrev pub ReexposedCalls : List Offset → Type 0
ReexposedCalls order =
    (m m' end end' : Memory) (numbers newest w h s percentile : ℕ) (cs cs' : List Handed) (rs rs' : List Reply)
    → Within m (starting numbers newest w h s 0 percentile ∷ cs) → Within m' (starting numbers newest w h s 0 percentile ∷ cs')
    → start_number w h s 0 percentile numbers newest ≡ 0 → AlikeCalls cs cs'
    → CalledList order m (starting numbers newest w h s 0 percentile ∷ cs) end rs
    → CalledList order m' (starting numbers newest w h s 0 percentile ∷ cs') end' rs'
    → rs ≡ rs'

-- Contracts and steps are one thing, on any memory, a damaged one too. What the calls leave and a board reads is what the steps say (`called-steps`, there).
abbrev pub CalledAsSteps : Type 0
CalledAsSteps =
    (order : List Offset) (m end : Memory) (cs : List Handed) (rs : List Reply) → CalledList order m cs end rs → (rs ≡ replies order m cs) × (end ≡ after_all order m cs)

-- And the contracts of any list of calls can be kept, so that the law of calls is not empty (`steps-called`, there).
abbrev pub StepsAreCalled : Type 0
StepsAreCalled = (order : List Offset) (m : Memory) (cs : List Handed) → CalledList order m cs (after_all order m cs) (replies order m cs)
