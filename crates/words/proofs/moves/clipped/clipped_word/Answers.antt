-- A word of the moved row, masked.
use native.Mathlib.Omega.{arith}
use Rattle.words.proofs.MoveLaws.{row-words-under, row-words-max}
use Rattle.words.proofs.MovedRowLaws.{clipped-moved}
use Rattle.words.proofs.moves.clipped.clipped_word.Goals as goal

pub moved_word-v-requires-clause-near : goal.moved_word-v-requires-clause-near
moved_word-v-requires-clause-near c = omega (arith, c.args.m.moves, row-words-max c.args.m.w c.args.m.moves.width)

pub overflow_mul-k : goal.overflow_mul-k
overflow_mul-k c = omega (arith, c.args.m.moves, row-words-max c.args.m.w c.args.m.moves.width)

pub overflow_sub-m : goal.overflow_sub-m
overflow_sub-m c = omega (arith, row-words-under c.args.m.w c.args.k (omega (arith, c.args.m.moves)))

pub returns : goal.returns
returns c =
    let a = c.args in
    clipped-moved a.words.now a.from a.m.w a.m.q a.m.r a.k c.moved_word-v.result c.keep_low.result a.m.moves.bits c.keep_low.type_inv
    c.moved_word-v.ensures c.keep_low.ensures
