-- The first y rows of the half are written, and nothing else has changed.
use Rattle.std.proofs.Common.{◌/◌}
use Rattle.rules.specs.Frames.{frame_of}
use Rattle.rules.specs.Greys.{halved}
use Rattle.rules.specs.Buffers.{FrameAt}
use Rattle.halve.proofs.halving.halve_frame.Given as goal

abbrev pub invariant-loop-y : goal.invariant-loop-y
invariant-loop-y l = FrameAt 0 (l.w / 2) (halved (frame_of l.w l.src)) l.initial.dst l.y l.dst
