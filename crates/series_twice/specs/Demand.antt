-- Demand 3 of document 00, about what a series call writes.
use Rattle.std.specs.Prelude.{◌≡◌, List, ℕ, ◌+◌, ◌*◌, ◌-◌, ℤ, length, take, Result, ⊤, Ok}
use Rattle.rules.specs.Series.{Settings, Answer, series_answer}
use Rattle.rules.specs.declared.Offset.{Offset}
use Rattle.rules.specs.Levels.{tolerance_in}
use Rattle.rules.specs.Calls.{series_number}
use Rattle.reexposure.specs.Reexposure.{Reexposed, Bounded}

-- "Its packed answer is the offsets and counts that this call writes", and the compared numbers beside them (document 02, Paper 2): of what the three buffers
-- hold when it returns, the first 2·N offsets, 9·(s+1)·(N−1) counts and as many compared numbers.
abbrev pub packed_answer : Settings → List ℤ → List ℕ → List ℕ → Answer
packed_answer S offsets counts compared = record {
  offsets = take (2 * S.frames) offsets;
  counts = take (9 * (S.halvings + 1) * (S.frames - 1)) counts;
  compared = take (9 * (S.halvings + 1) * (S.frames - 1)) compared;
}

-- "Let F be any accepted series of N frames with s halvings, reference r and tolerance 0. Let F' be any series with the same sizes and settings in
-- which, within each frame, any two pixels compare in grey (darker, equal, brighter) as they do in F": F's refusal number is 0, and F' is "handed over with
-- lent buffers of the same lengths". A band has no tolerance: "for every b, re-exposed series answer alike, with the same premise about brightness order and no
-- condition on tolerance" (document 02, Paper 6). Of each buffer F's stands before that of F'.
pub record Given (S : Settings) (F F' : List ℕ) (offsets offsets' : List ℤ) (counts counts' compared compared' grey grey' words words' : List ℕ) : Type 0 where
  pub accepted : series_number S F offsets counts compared grey words ≡ 0
  pub tolerance : tolerance_in S.exclusion ≡ 0
  pub raster_bytes : length F' ≡ length F
  pub offset_room : length offsets' ≡ length offsets
  pub count_room : length counts' ≡ length counts
  pub compared_room : length compared' ≡ length compared
  pub grey_memory : length grey' ≡ length grey
  pub word_memory : length words' ≡ length words
  pub alike : Reexposed S F F'

-- "Then the packed answers for F and for F' are the same, and both equal the pixel-by-pixel answer for F': every offset and all 9·(s+1)·(N−1)
-- counts", and "at tolerance 0 re-exposed frames give equal compared numbers too". "In both, frame k's offset is in size at most |k−r|·(2^(s+1)−1) on each axis." And "F' is accepted too".
-- `preferred` is the order of the nine that the call uses.
pub record Demanded (preferred : List Offset) (S : Settings) (F' : List ℕ) (answer' : Result ⊤ ℕ) (packed packed' : Answer) : Type 0 where
  pub accepted : answer' ≡ Ok tt
  pub same : packed ≡ packed'
  pub pixels : packed ≡ series_answer preferred S F'
  pub pixels' : packed' ≡ series_answer preferred S F'
  pub bound : Bounded S packed
  pub bound' : Bounded S packed'
