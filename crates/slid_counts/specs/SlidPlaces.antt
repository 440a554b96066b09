-- The difference counts and compared numbers over the words that hold two frames' bitmaps, and the second frame's once more, slid.
use Rattle.std.specs.Prelude.{◌≡◌, List, ℕ, ◌*◌, ◌<◌, length, get_or, drop, ℤ, pos}
use Rattle.rules.specs.Planes.{shifted}
use Rattle.rules.specs.Bitmaps.{row_words}
use Rattle.rules.specs.Differences.{Planes, SamePlanes, difference, compared}
use Rattle.rules.specs.Calls.{planes_of}
use Rattle.rules.specs.declared.Offset.{Offset}
use Rattle.word_runs.specs.WordRuns.{Clean}

-- the two frames whose bitmaps stand one after the other
abbrev pub first_in : ℕ → ℕ → List ℕ → Planes
first_in w h words = planes_of w h words (drop (row_words w * h) words)

abbrev pub second_in : ℕ → ℕ → List ℕ → Planes
second_in w h words = planes_of w h (drop (2 * (row_words w * h)) words) (drop (3 * (row_words w * h)) words)

-- the second once more, slid
abbrev pub slid_in : ℕ → ℕ → List ℕ → Planes
slid_in w h words = planes_of w h (drop (4 * (row_words w * h)) words) (drop (5 * (row_words w * h)) words)

-- their difference count at an offset, and their compared number
unfoldable pub words_count : ℕ → ℕ → List ℕ → Offset → ℕ
words_count w h words m = difference w h m.dx m.dy (first_in w h words) (second_in w h words)

unfoldable pub words_compared : ℕ → ℕ → List ℕ → Offset → ℕ
words_compared w h words m = compared w h m.dx m.dy (first_in w h words) (second_in w h words)

-- both planes moved right by dx
abbrev pub slid : ℕ → ℕ → ℤ → Planes → Planes
slid w h dx p = record { threshold = shifted w h dx (pos 0) p.threshold; exclusion = shifted w h dx (pos 0) p.exclusion }

-- the bitmaps of the second frame moved right by dx stand after the four, with no 1 past the width
pub record SlidAt (w h : ℕ) (dx : ℤ) (words : List ℕ) : Type 0 where
  pub planes : SamePlanes w h (slid_in w h words) (slid w h dx (second_in w h words))
  pub clean : Clean w h (drop (5 * (row_words w * h)) words)

-- what stands before place n is kept
pub record KeptTo (n : ℕ) (before after : List ℕ) : Type 0 where
  pub len : length after ≡ length before
  pub under : (m : ℕ) → m < n → get_or after m 0 ≡ get_or before m 0
