-- A word wholly inside w is read as it is, the last one masked, and past the row no pixel is.
use Rattle.std.proofs.Common.{◌∙◌, ◌+◌, ◌*◌, sym, arith}
use Rattle.words.proofs.BitLaws.{bit-zero}
use Rattle.words.proofs.MoveLaws.{row-words-over, row-bit, row_last, row-past}
use Rattle.words.proofs.row_word.Goals as goal

pub bounds-src-base : goal.bounds-src-base
bounds-src-base c = omega (arith, row-words-over c.args.w c.args.k (omega arith))

pub returns-then-x-w : goal.returns-then-x-w
returns-then-x-w c i l = let a = c.args in sym (row-bit a.src.now a.base a.w a.k i (omega arith) l)

pub bounds-src-base-then-x-w-2 : goal.bounds-src-base-then-x-w-2
bounds-src-base-then-x-w-2 c = omega (arith, row-words-over c.args.w c.args.k c.if-x-w-2.true)

pub returns-then-x-w-2 : goal.returns-then-x-w-2
returns-then-x-w-2 c i l = let a = c.args in c.keep_low.ensures i ∙ row_last a.src.now a.base a.w a.k i c.if-x-w-2.true l

pub returns : goal.returns
returns c i l = let a = c.args in bit-zero i ∙ sym (row-past a.src.now a.base a.w (a.k * 64 + i) (omega arith))
