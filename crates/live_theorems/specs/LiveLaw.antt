-- THE LAW of the live bracket: "For every list of these calls from an empty one, refused ones included and nothing else writing its memory, the offsets told are those of
-- the series call on the frames then held, in order; on an empty one they are none."
use Rattle.std.specs.Prelude.{◌≡◌, List, [], ◌∷◌, ℕ, ◌*◌, ◌-◌, ◌≤◌, ◌<◌, ℤ, length, take, Result, ⊤, Ok}
use Rattle.rules.specs.declared.Offset.{Offset}
use Rattle.rules.specs.Limits.{max_frames}
use Rattle.rules.specs.Refusals.{counts_length, grey_needed, words_needed}
use Rattle.rules.specs.Calls.{SeriesCall}
use Rattle.live.specs.Held.{Memory, bracket_of}
use Rattle.live.specs.Steps.{Call, Reply, start_number}
use Rattle.live_theorems.specs.Runs.{Handed, Within, replies, after_all}
use Rattle.live_theorems.specs.Sessions.{Session, opened, bracket_in, all_rasters, series_of, series_offsets, replies_in, session_after}

-- a start that is handed so many numbers and bytes
abbrev pub starting : ℕ → ℕ → ℕ → ℕ → ℕ → ℕ → ℕ → Handed
starting numbers newest w h s tolerance percentile = record { numbers = numbers; newest = newest; call = Call.Start w h s tolerance percentile }

abbrev pub accepted : Reply
accepted = record { number = 0; frames = 0; offsets = [] }

-- What holds of an accepted start on any memory, whatever it held, and of any list of calls after it: each call answers, and writes, as the session does.
abbrev pub AsSession : List Offset → Type 0
AsSession order =
    (m : Memory) (numbers newest w h s tolerance percentile : ℕ) (cs : List Handed)
    → Within m (starting numbers newest w h s tolerance percentile ∷ cs) → start_number w h s tolerance percentile numbers newest ≡ 0
    → replies order m (starting numbers newest w h s tolerance percentile ∷ cs) ≡ accepted ∷ replies_in order (opened w h s tolerance percentile) cs

-- The memory then holds the session's size, settings and number of frames, which is 16 at most.
pub record HoldsSession (S : Session) (m : Memory) : Type 0 where
  pub bracket : bracket_of m.numbers ≡ bracket_in S
  pub few : length S.rasters ≤ max_frames

abbrev pub HeldAfter : List Offset → Type 0
HeldAfter order =
    (m : Memory) (numbers newest w h s tolerance percentile : ℕ) (cs : List Handed)
    → Within m (starting numbers newest w h s tolerance percentile ∷ cs) → start_number w h s tolerance percentile numbers newest ≡ 0
    → HoldsSession (session_after (opened w h s tolerance percentile) cs) (after_all order m (starting numbers newest w h s tolerance percentile ∷ cs))

-- The series call itself, on the frames of a session that a list of calls leads to, one or more, with buffers and work memory as long as it needs: it is accepted, and the
-- offsets that it writes are those that the session tells.
abbrev pub SeriesTakes : List Offset → Type 0
SeriesTakes order =
    (numbers newest w h s tolerance percentile : ℕ) (cs : List Handed) → start_number w h s tolerance percentile numbers newest ≡ 0
    → (S : Session) → S ≡ session_after (opened w h s tolerance percentile) cs → 0 < length S.rasters
    → (offsets offsets' : List ℤ) (counts counts' compared compared' grey grey' words words' : List ℕ) (r : Result ⊤ ℕ)
    → 2 * length S.rasters ≤ length offsets
    → counts_length S.s * (length S.rasters - 1) ≤ length counts → counts_length S.s * (length S.rasters - 1) ≤ length compared
    → grey_needed S.s S.w S.h ≤ length grey → words_needed S.w S.h ≤ length words
    → SeriesCall order (series_of S) (all_rasters S.rasters) offsets offsets' counts counts' compared compared' grey grey' words words' r
    → (r ≡ Ok tt) × (take (2 * length S.rasters) offsets' ≡ series_offsets order S)

-- all of it (proved in proofs/LawProof.antt as `live-law`, for every order of the nine, so for the calls' own)
pub record LiveLaw (order : List Offset) : Type 0 where
  pub as_session : AsSession order
  pub held_after : HeldAfter order
  pub series_takes : SeriesTakes order
