-- A live bracket by example (document 02, Paper 7): one list of calls with what each answers and tells, from the definitions (proved in proofs/ExampleSessions.antt).
use Rattle.std.specs.Prelude.{◌≡◌, List, [], ◌∷◌, ℕ, ℤ, pos, negsuc}
use Rattle.rules.specs.Levels.{least_move_order}
use Rattle.rules.specs.Examples.{first_rows, second_rows, colourless}
use Rattle.live.specs.Held.{Memory}
use Rattle.live.specs.Steps.{Call, Reply}
use Rattle.live_theorems.specs.Runs.{Handed, Within, replies}
use Rattle.live_theorems.specs.LiveLaw.{starting, accepted}

-- document 01's printed frames of 4 by 4; by the least move the second stands (−1,0) from the first
abbrev pub first_frame : List ℕ
first_frame = colourless (first_rows 10 20 90)

abbrev pub second_frame : List ℕ
second_frame = colourless (second_rows 10 20 90)

-- a call that is handed the 36 numbers and the 16 bytes, and an add with the work memory that it needs
abbrev pub whole : Call → Handed
whole c = record { numbers = 36; newest = 16; call = c }

abbrev pub adding : List ℕ → Handed
adding raster = whole (Call.Add raster 32 24)

abbrev pub refused : ℕ → Reply
refused n = record { number = n; frames = 0; offsets = [] }

abbrev pub telling : ℕ → List ℤ → Reply
telling n offsets = record { number = 0; frames = n; offsets = offsets }

-- after a start with s=0, T=0, P=50
abbrev pub worked_calls : List Handed
worked_calls =
    whole (Call.Tell 0)
    ∷ whole Call.Drop
    ∷ adding first_frame
    ∷ adding second_frame
    ∷ whole (Call.Tell 3)
    ∷ whole (Call.Tell 4)
    ∷ adding first_frame
    ∷ whole (Call.Tell 6)
    ∷ adding (colourless (1 ∷ 2 ∷ 3 ∷ []))
    ∷ whole (Call.Add second_frame 31 24)
    ∷ whole Call.Drop
    ∷ whole (Call.Tell 4)
    ∷ record { numbers = 35; newest = 16; call = Call.Drop }
    ∷ whole (Call.Start 4 4 1 0 50)
    ∷ whole Call.Drop
    ∷ whole (Call.Tell 2)
    ∷ whole (Call.Start 4 4 0 0 50)
    ∷ whole (Call.Tell 0)
    ∷ []

abbrev pub worked_replies : List Reply
worked_replies =
    -- nothing held: no offsets, and no frame to drop
    telling 0 []
    ∷ refused 16
    -- two frames, told into a buffer of too few numbers, then of four; a third one, back at the first
    ∷ accepted
    ∷ accepted
    ∷ refused 10
    ∷ telling 2 (pos 0 ∷ pos 0 ∷ negsuc 0 ∷ pos 0 ∷ [])
    ∷ accepted
    ∷ telling 3 (pos 0 ∷ pos 0 ∷ negsuc 0 ∷ pos 0 ∷ pos 0 ∷ pos 0 ∷ [])
    -- a raster of a wrong length, too little work memory
    ∷ refused 9
    ∷ refused 11
    -- without the oldest: against the second frame now
    ∷ accepted
    ∷ telling 2 (pos 0 ∷ pos 0 ∷ pos 1 ∷ pos 0 ∷ [])
    -- 35 numbers; a start that is refused changes nothing
    ∷ refused 9
    ∷ refused 4
    ∷ accepted
    ∷ telling 1 (pos 0 ∷ pos 0 ∷ [])
    -- a second start
    ∷ accepted
    ∷ telling 0 []
    ∷ []

-- whatever the memory held before the start
abbrev pub WorkedSession : Type 0
WorkedSession =
    (m : Memory) → Within m (starting 36 16 4 4 0 0 50 ∷ worked_calls)
    → replies least_move_order m (starting 36 16 4 4 0 0 50 ∷ worked_calls) ≡ accepted ∷ worked_replies
