-- A bitmap's words are few where the sizes are within their limits.
use Rattle.std.proofs.Common.{arith}
use Rattle.work_memory.proofs.MemoryLaws.{bitmap-fit}
use Rattle.work_memory.proofs.word_memory.Goals as goal

pub overflow_mul-result : goal.overflow_mul-result
overflow_mul-result c = rw c.row_words.ensures (omega (arith, bitmap-fit c.args.w c.args.h c.requires.0 c.requires.1))

pub overflow_mul-result-2 : goal.overflow_mul-result-2
overflow_mul-result-2 c = rw c.row_words.ensures (omega (arith, bitmap-fit c.args.w c.args.h c.requires.0 c.requires.1))
