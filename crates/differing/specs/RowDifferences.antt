-- The differences of two frames' packed rows, and the pixels that are compared.
use Rattle.std.specs.Prelude.{◌&&◌, not, List, ℕ, ◌+◌, ◌*◌, ◌≤◌, ltb, eqb, length}
use Rattle.rules.specs.Limits.{word_bits}
use Rattle.rules.specs.Sums.{gate, one_if, sum}
use Rattle.rules.specs.Bitmaps.{row_words}
use Rattle.rules.specs.Differences.{Planes}
use Rattle.rules.specs.Calls.{planes_of}
use Rattle.words.specs.declared.moves.Move.{Move}
use Rattle.words.specs.Rows.{row_bit, back, bias}
use Rattle.words.specs.Moves.{moved_bit}
use Rattle.tallies.specs.Tallies.{both}
use Rattle.differing.specs.declared.FramePair.{FramePair}

-- 1 where both exclusion bits are 1 and the threshold bits are unequal
unfoldable pub disagree : ℕ → ℕ → ℕ → ℕ → ℕ
disagree t1 e1 t2 e2 = one_if (eqb e1 1 && (eqb e2 1 && not (eqb t1 t2)))

-- 1 where both exclusion bits are 1
unfoldable pub both_kept : ℕ → ℕ → ℕ
both_kept e1 e2 = one_if (eqb e1 1 && eqb e2 1)

-- pixel x of a row of the first frame, whose words begin at `base`, against its partner in a moved row of the second, whose words begin at `from`
unfoldable pub row_differ : List ℕ → List ℕ → List ℕ → List ℕ → ℕ → ℕ → ℕ → ℕ → ℕ → ℕ
row_differ t1 e1 t2 e2 base from w d x =
    disagree (row_bit t1 base w x) (row_bit e1 base w x) (moved_bit t2 from w d x) (moved_bit e2 from w d x)

-- whether the two are compared
unfoldable pub row_kept : List ℕ → List ℕ → ℕ → ℕ → ℕ → ℕ → ℕ → ℕ
row_kept e1 e2 base from w d x = both_kept (row_bit e1 base w x) (moved_bit e2 from w d x)

-- both in one number
abbrev pub row_tally : List ℕ → List ℕ → List ℕ → List ℕ → ℕ → ℕ → ℕ → ℕ → ℕ → ℕ
row_tally t1 e1 t2 e2 base from w d = both (row_differ t1 e1 t2 e2 base from w d) (row_kept e1 e2 base from w d)

-- the tally of row y: its partner row is `up` rows back, counted from the bias, and may lie outside the frame
unfoldable pub line_tally : List ℕ → List ℕ → List ℕ → List ℕ → ℕ → ℕ → ℕ → ℕ → ℕ → ℕ
line_tally t1 e1 t2 e2 w h d up y =
    back (λ z. gate (ltb z h) (sum w (row_tally t1 e1 t2 e2 (y * row_words w) (z * row_words w) w d))) up (bias + y)

-- the planes of w by h pixels that the first frame's bitmaps hold, and those of the second's
abbrev pub first_planes : ℕ → ℕ → FramePair → Planes
first_planes w h p = planes_of w h p.threshold1.now p.exclusion1.now

abbrev pub second_planes : ℕ → ℕ → FramePair → Planes
second_planes w h p = planes_of w h p.threshold2.now p.exclusion2.now

-- the row at `base` of the first frame against the row at `from` of the second, moved
abbrev pub moved_differ : FramePair → ℕ → ℕ → Move → ℕ → ℕ
moved_differ p base from m =
    row_differ p.threshold1.now p.exclusion1.now p.threshold2.now p.exclusion2.now base from m.w (m.q * word_bits + m.r)

abbrev pub moved_kept : FramePair → ℕ → ℕ → Move → ℕ → ℕ
moved_kept p base from m = row_kept p.exclusion1.now p.exclusion2.now base from m.w (m.q * word_bits + m.r)

abbrev pub moved_tally : FramePair → ℕ → ℕ → Move → ℕ → ℕ
moved_tally p base from m =
    row_tally p.threshold1.now p.exclusion1.now p.threshold2.now p.exclusion2.now base from m.w (m.q * word_bits + m.r)

-- row y of the first frame against its partner row in the second
abbrev pub pair_line : FramePair → ℕ → ℕ → ℕ → ℕ → ℕ → ℕ
pair_line p = line_tally p.threshold1.now p.exclusion1.now p.threshold2.now p.exclusion2.now

-- the two rows lie in the four bitmaps
pub record RowsIn (p : FramePair) (base from w : ℕ) : Type 0 where
  pub threshold1 : base + row_words w ≤ length p.threshold1.now
  pub exclusion1 : base + row_words w ≤ length p.exclusion1.now
  pub threshold2 : from + row_words w ≤ length p.threshold2.now
  pub exclusion2 : from + row_words w ≤ length p.exclusion2.now

-- the two frames lie in the four bitmaps
pub record FramesIn (p : FramePair) (w h : ℕ) : Type 0 where
  pub threshold1 : row_words w * h ≤ length p.threshold1.now
  pub exclusion1 : row_words w * h ≤ length p.exclusion1.now
  pub threshold2 : row_words w * h ≤ length p.threshold2.now
  pub exclusion2 : row_words w * h ≤ length p.exclusion2.now
