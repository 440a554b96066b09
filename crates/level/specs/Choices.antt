-- A level's answer: the nine counts, the candidate that they choose, and the nine compared numbers.
use Rattle.std.specs.Prelude.{◌≡◌, List, map, ℕ}
use Rattle.rules.specs.declared.Offset.{Offset}
use Rattle.rules.specs.declared.Setup.{Setup}
use Rattle.rules.specs.Frames.{Frame}
use Rattle.rules.specs.Buffers.{RowAt}
use Rattle.rules.specs.Levels.{added, rule_of, chosen, count_at, compared_at}
use Rattle.level_counts.specs.NineCounts.{nine_of}

-- the difference count of two grey frames at a candidate, as a setup says
abbrev pub count_by : Setup → Frame → Frame → Offset → ℕ
count_by S a b = count_at (rule_of S.exclusion) S.percentile S.w S.h a b

-- their compared number there
abbrev pub compared_by : Setup → Frame → Frame → Offset → ℕ
compared_by S a b = compared_at (rule_of S.exclusion) S.percentile S.w S.h a b

-- the nine counts and compared numbers stand from place `at` on, and the offset is the first with the least count, candidates being preferred in the given order
pub record LevelAligned (preferred : List Offset) (count out_of : Offset → ℕ) (centre : Offset) (at : ℕ) (counts counts' compared compared' : List ℕ) (r : Offset) : Type 0 where
  pub offset : r ≡ chosen count (map (added centre) preferred)
  pub nine_counts : RowAt at (nine_of count centre) counts 9 counts'
  pub nine_compared : RowAt at (nine_of out_of centre) compared 9 compared'
