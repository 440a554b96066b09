-- What of the held memory is used: "unused ones written 0 by every accepted start, add and drop and never read", and the newest grey is "free while none is held".
use Rattle.std.specs.Prelude.{◌≡◌, List, ℕ, ◌+◌, ◌*◌, ◌≤◌, ◌<◌, ℤ, pos, length, get_or}
use Rattle.rules.specs.declared.Offset.{Offset}
use Rattle.rules.specs.Frames.{frame_of, SameFrame}
use Rattle.live.specs.Held.{Memory, held_length, pair_place, bracket_of, held_pair, pairs_in}
use Rattle.live.specs.Steps.{Call, number_of, step}
use Rattle.live_theorems.specs.Runs.{Handed, replies}

-- Two memories that agree in what is used: the six numbers, the pairs in use, and the newest grey where a frame is held.
pub record Agree (m m' : Memory) : Type 0 where
  pub numbers_length : length m'.numbers ≡ length m.numbers
  pub newest_length : length m'.newest ≡ length m.newest
  pub bracket : bracket_of m'.numbers ≡ bracket_of m.numbers
  pub pairs : (k : ℕ) → k < pairs_in (bracket_of m.numbers) → held_pair m'.numbers k ≡ held_pair m.numbers k
  pub newest : 0 < (bracket_of m.numbers).frames
      → SameFrame (bracket_of m.numbers).w (bracket_of m.numbers).h (frame_of (bracket_of m.numbers).w m'.newest) (frame_of (bracket_of m.numbers).w m.newest)

-- They answer alike: nothing else is read, whatever the memory holds, by any call of any list (proved in proofs/UnreadLaws.antt as `unread`).
abbrev pub Unread : Type 0
Unread = (order : List Offset) (m m' : Memory) → Agree m m' → (cs : List Handed) → replies order m cs ≡ replies order m' cs

-- the numbers of a memory past the pairs in use are 0
abbrev pub ZeroPastPairs : List ℤ → Type 0
ZeroPastPairs numbers = (i : ℕ) → pair_place + 2 * pairs_in (bracket_of numbers) ≤ i → i < held_length → get_or numbers i (pos 0) ≡ pos 0

-- the calls that change the memory
abbrev pub Changes : Call → Type 0
Changes (Call.Start w h s tolerance percentile) = Unit {0}
Changes (Call.Add raster grey words) = Unit {0}
Changes Call.Drop = Unit {0}
Changes (Call.Tell offsets) = ⊥

-- Whatever the memory held, an accepted start, add or drop leaves 0 in the unused numbers (proved in proofs/UnreadLaws.antt as `zeros-written`).
abbrev pub ZerosWritten : Type 0
ZerosWritten = (order : List Offset) (m : Memory) (c : Call) → Changes c → number_of m c ≡ 0 → ZeroPastPairs (step order m c).memory.numbers
