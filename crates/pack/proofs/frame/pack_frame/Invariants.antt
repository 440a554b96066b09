-- The first y rows of both bitmaps are written, and nothing else has changed.
use Rattle.rules.specs.Bitmaps.{row_words, word_of}
use Rattle.rules.specs.Buffers.{FrameAt}
use Rattle.pack.specs.Outside.{outside_plane}
use Rattle.pack.proofs.frame.pack_frame.Given as goal

abbrev pub invariant-loop-y : goal.invariant-loop-y
invariant-loop-y l = record {
  first : FrameAt 0 (row_words l.w) (word_of l.w (outside_plane 0 l.threshold l.w l.grey)) l.initial.thresholds l.y l.thresholds;
  second : FrameAt 0 (row_words l.w) (word_of l.w (outside_plane l.lo l.hi l.w l.grey)) l.initial.exclusions l.y l.exclusions;
}
