-- Each word is interior to all rows taken as one.
use Rattle.std.proofs.Common.{ℕ, ◌+◌, ◌*◌, ◌-◌, refl, arith}
use Rattle.words.specs.MovedRows.{moved_word}
use Rattle.words.proofs.MovedRowLaws.{interior-moved}
use Rattle.shift_words.proofs.MovedPartLaws.{part-more, run_inside}
use Rattle.shift_words.proofs.join_run.Goals as goal

pub bounds-src-j : goal.bounds-src-j
bounds-src-j c = omega (arith, run_inside c.args.m c.args.h c.loop-k.k c.requires.some.0 c.requires.some.1 (omega arith) (omega arith))

pub overflow_sub-j-in-loop-k : goal.overflow_sub-j-in-loop-k
overflow_sub-j-in-loop-k c = omega (arith, run_inside c.args.m c.args.h c.loop-k.k c.requires.some.0 c.requires.some.1 (omega arith) (omega arith))

pub bounds-src-j-in-loop-k : goal.bounds-src-j-in-loop-k
bounds-src-j-in-loop-k c = omega (arith, run_inside c.args.m c.args.h c.loop-k.k c.requires.some.0 c.requires.some.1 (omega arith) (omega arith))

pub loop-k-preserved : goal.loop-k-preserved
loop-k-preserved c =
    let a = c.args in
    let k = c.loop-k.k in
    let w : ℕ = a.m.n * a.h * 64 in
    let inside = run_inside a.m a.h k c.requires.some.0 c.requires.some.1 (omega arith) (omega arith) in
    part-more (moved_word a.src.now a.from w a.m.q a.m.r) a.dst.now c.loop-k.dst a.to a.first k c.joined_word.result (omega arith) (omega (arith, inside)) c.loop-k.invariant
    (interior-moved a.src.now a.from w a.m.q a.m.r k (a.from + k + 33554432 - a.m.q) c.joined_word.result c.joined_word.type_inv a.m.moves.bits inside refl c.joined_word.ensures)
