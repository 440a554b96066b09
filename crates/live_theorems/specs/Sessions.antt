-- A session: the frames that a live bracket holds, as a list of rasters, with no held memory. What the four calls would answer if each worked from all the frames
-- then held: the offsets told are those of the series call, "least-move order, reference 0, the percentile repeated".
use Rattle.std.specs.Prelude.{false, List, [], ◌∷◌, ◌++◌, ℕ, ◌-◌, length, drop, replicate, ℤ}
use Rattle.rules.specs.declared.Offset.{Offset}
use Rattle.rules.specs.Series.{Settings, series_answer}
use Rattle.rules.specs.Calls.{tolerance_settings}
use Rattle.live.specs.declared.Bracket.{Bracket}
use Rattle.live.specs.Steps.{Call, Reply, start_number, add_number, drop_number, tell_number, if_accepted}
use Rattle.live_theorems.specs.Runs.{Handed}

-- size and settings of the last accepted start, and the rasters of "the frames then held, in order"
pub record Session : Type 0 where
  pub w : ℕ
  pub h : ℕ
  pub s : ℕ
  pub tolerance : ℕ
  pub percentile : ℕ
  pub rasters : List (List ℕ)

abbrev pub opened : ℕ → ℕ → ℕ → ℕ → ℕ → Session
opened w h s tolerance percentile = record { w = w; h = h; s = s; tolerance = tolerance; percentile = percentile; rasters = [] }

abbrev pub with_rasters : Session → List (List ℕ) → Session
with_rasters S rasters = record { w = S.w; h = S.h; s = S.s; tolerance = S.tolerance; percentile = S.percentile; rasters = rasters }

abbrev pub bracket_in : Session → Bracket
bracket_in S = record { w = S.w; h = S.h; s = S.s; tolerance = S.tolerance; percentile = S.percentile; frames = length S.rasters }

-- the frames held, handed to the series call: "one raster after another", reference 0, the percentile once for each pair
unfoldable pub all_rasters : List (List ℕ) → List ℕ
all_rasters [] = []
all_rasters (raster ∷ rasters) = raster ++ all_rasters rasters

abbrev pub series_of : Session → Settings
series_of S =
    tolerance_settings S.w S.h S.s S.tolerance (length S.rasters) 0 (replicate (length S.rasters - 1) S.percentile)

-- the refusal number of a call that is handed so many numbers and so many bytes: no limit of a held memory is broken, so that 16 is left for a drop with nothing held
unfoldable pub number_in : Session → ℕ → ℕ → Call → ℕ
number_in S numbers newest (Call.Start w h s tolerance percentile) = start_number w h s tolerance percentile numbers newest
number_in S numbers newest (Call.Add raster grey words) = add_number false (bracket_in S) numbers newest (length raster) grey words
number_in S numbers newest Call.Drop = drop_number false (bracket_in S) numbers newest
number_in S numbers newest (Call.Tell offsets) = tell_number false (bracket_in S) numbers newest offsets

-- the session that an accepted call leaves: it "adds a frame at its end, drops its oldest"; "a second start inside a list resets"
unfoldable pub changed : Session → Call → Session
changed S (Call.Start w h s tolerance percentile) = opened w h s tolerance percentile
changed S (Call.Add raster grey words) = with_rasters S (S.rasters ++ (raster ∷ []))
changed S Call.Drop = with_rasters S (drop 1 S.rasters)
changed S (Call.Tell offsets) = S

unfoldable pub frames_told : Session → Call → ℕ
frames_told S (Call.Start w h s tolerance percentile) = 0
frames_told S (Call.Add raster grey words) = 0
frames_told S Call.Drop = 0
frames_told S (Call.Tell offsets) = length S.rasters

-- the offsets of the series call for the frames held
abbrev pub series_offsets : List Offset → Session → List ℤ
series_offsets order S = (series_answer order (series_of S) (all_rasters S.rasters)).offsets

-- "the offsets told are those of the series call on the frames then held, in order; on an empty one they are none"
unfoldable pub offsets_told : List Offset → Session → Call → List ℤ
offsets_told order S (Call.Start w h s tolerance percentile) = []
offsets_told order S (Call.Add raster grey words) = []
offsets_told order S Call.Drop = []
offsets_told order S (Call.Tell offsets) = series_offsets order S

abbrev pub reply_in : List Offset → Session → ℕ → Call → Reply
reply_in order S number c = record { number = number; frames = if_accepted number (frames_told S c) 0; offsets = if_accepted number (offsets_told order S c) [] }

-- what the calls of a list answer and write, one after another
unfoldable pub replies_in : List Offset → Session → List Handed → List Reply
replies_in order S [] = []
replies_in order S (c ∷ cs) =
    let number : ℕ = number_in S c.numbers c.newest c.call in
    reply_in order S number c.call ∷ replies_in order (if_accepted number (changed S c.call) S) cs

-- the session at the end of a list
unfoldable pub session_after : Session → List Handed → Session
session_after S [] = S
session_after S (c ∷ cs) = session_after (if_accepted (number_in S c.numbers c.newest c.call) (changed S c.call) S) cs
