-- The first y rows are written, and nothing else has changed.
use Rattle.std.proofs.Common.{min}
use Rattle.rules.specs.Buffers.{FrameAt}
use Rattle.shift_words.specs.MovedParts.{moved_rows}
use Rattle.shift_rows.proofs.move_blocks.Given as goal

abbrev pub invariant-loop-y : goal.invariant-loop-y
invariant-loop-y l = FrameAt l.to l.m.n (moved_rows l.src l.from l.m) l.initial.dst (min l.y l.h) l.dst
