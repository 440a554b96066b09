-- The pixels of all levels are few where the sizes are within their limits.
use Rattle.std.proofs.Common.{arith}
use Rattle.rules.proofs.AlignmentLaws.{level-pixels-fit}
use Rattle.work_memory.proofs.grey_memory.Goals as goal

pub overflow_mul-result : goal.overflow_mul-result
overflow_mul-result c = omega (arith, level-pixels-fit c.args.s c.args.w c.args.h c.requires.0 c.requires.1)
