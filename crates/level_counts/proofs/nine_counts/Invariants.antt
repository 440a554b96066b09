-- The numbers of the first i columns are written, and the four bitmaps are as they were.
use Prim.Native.Nat.{◌*◌}
use Rattle.rules.specs.Bitmaps.{row_words}
use Rattle.rules.specs.Buffers.{RowAt}
use Rattle.level_counts.specs.NineCounts.{nine_of}
use Rattle.slid_counts.specs.SlidPlaces.{KeptTo, words_count, words_compared}
use Rattle.level_counts.proofs.nine_counts.Given as goal

abbrev pub invariant-loop-i : goal.invariant-loop-i
invariant-loop-i l = record {
  kept : KeptTo (4 * (row_words l.w * l.h)) l.initial.words l.words;
  counted : RowAt l.at (nine_of (words_count l.w l.h l.initial.words) l.centre) l.initial.counts (3 * l.i) l.counts;
  compared : RowAt l.at (nine_of (words_compared l.w l.h l.initial.words) l.centre) l.initial.compared (3 * l.i) l.compared;
}
