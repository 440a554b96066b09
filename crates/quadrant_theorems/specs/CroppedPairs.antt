-- "A quadrant's offset equals that of the same pixels cropped and aligned as a pair", of what the calls answer.
use Rattle.std.specs.Prelude.{◌≡◌, List, ℕ, ◌+◌, ◌*◌, ◌/◌, ◌≤◌, ℤ, pos, length, get_or, Result, Ok, Bool}
use Rattle.rules.specs.declared.Offset.{Offset}
use Rattle.rules.specs.declared.Setup.{Setup}
use Rattle.rules.specs.Refusals.{counts_length, grey_needed, words_needed}
use Rattle.rules.specs.Calls.{PairCall}
use Rattle.crop.specs.declared.Quadrant.{Quadrant}
use Rattle.quadrant.specs.QuadrantPairs.{quadrant_setup, quadrant_raster}
use Rattle.quadrants.specs.QuadrantsCalls.{quadrants_number, QuadrantsCall}

-- where a quadrant's offset stands among the four: "upper left, upper right, lower left, lower right"
abbrev pub place_among_four : Quadrant → ℕ
place_among_four Quadrant.UpperLeft = 0
place_among_four Quadrant.UpperRight = 1
place_among_four Quadrant.LowerLeft = 2
place_among_four Quadrant.LowerRight = 3

-- the offset that a call has written for a quadrant
abbrev pub offset_of : Quadrant → List ℤ → Offset
offset_of q offsets = record { dx = get_or offsets (2 * place_among_four q) (pos 0); dy = get_or offsets (2 * place_among_four q + 1) (pos 0) }

-- Of every accepted quadrants call, and of every pair call that is made with a quadrant of both rasters cropped, with the quadrant's sides and the same settings, in
-- the same order of the nine, with buffers and work memory as long as such a pair needs: the pair call is accepted, and it
-- answers the offset that the quadrants call has written for this quadrant (proved in proofs/CallLaws.antt as `cropped-pair`).
abbrev pub CroppedPair : Type 0
CroppedPair =
    (order : List Offset) (S : Setup) (first second : List ℕ) (offsets offsets' : List ℤ) (grey grey' words words' : List ℕ) (r : Result Bool ℕ)
    → quadrants_number S first second offsets grey words ≡ 0 → QuadrantsCall order S first second offsets offsets' grey grey' words words' r
    → (q : Quadrant) (counts counts' compared compared' memory memory' bitmaps bitmaps' : List ℕ) (p : Result Offset ℕ)
    → counts_length S.s ≤ length counts → counts_length S.s ≤ length compared
    → grey_needed S.s (S.w / 2) (S.h / 2) ≤ length memory → words_needed (S.w / 2) (S.h / 2) ≤ length bitmaps
    → PairCall order (quadrant_setup S) (quadrant_raster S q first) (quadrant_raster S q second) counts counts' compared compared' memory memory' bitmaps bitmaps' p
    → p ≡ Ok (offset_of q offsets')
