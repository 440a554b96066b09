-- The counts and compared numbers at the first j candidates of the column are written, and nothing else has changed.
use Rattle.rules.specs.Buffers.{RowAt}
use Rattle.level_counts.specs.NineCounts.{column_of}
use Rattle.slid_counts.specs.SlidPlaces.{words_count, words_compared}
use Rattle.level_counts.proofs.three_counts.Given as goal

abbrev pub invariant-loop-j : goal.invariant-loop-j
invariant-loop-j l = record {
  counted : RowAt l.at (column_of (words_count l.w l.h l.words) l.centre l.i) l.initial.counts l.j l.counts;
  compared : RowAt l.at (column_of (words_compared l.w l.h l.words) l.centre l.i) l.initial.compared l.j l.compared;
}
