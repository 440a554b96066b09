-- The product of a row's words and the height fits, by the limits of the sides.
use Rattle.std.proofs.Common.{arith}
use Rattle.level_planes.proofs.FrameSideLaws.{sized}
use Rattle.level_planes.proofs.bitmap_words.Goals as goal

pub overflow_mul-result : goal.overflow_mul-result
overflow_mul-result c = let s = sized c.args.w c.args.h c.requires in rw c.row_words.ensures (omega arith)
