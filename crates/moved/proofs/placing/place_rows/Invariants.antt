-- The first y rows are written, and nothing else has changed.
use Rattle.std.proofs.Common.{◌*◌}
use Rattle.rules.specs.Buffers.{FrameAt}
use Rattle.moved.specs.Spans.{placed_byte}
use Rattle.moved.proofs.placing.place_rows.Given as goal

abbrev pub invariant-loop-y : goal.invariant-loop-y
invariant-loop-y l = FrameAt 0 (3 * l.w) (placed_byte l.w l.raster l.columns l.rows) l.fn.out l.y l.out
