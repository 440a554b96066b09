-- An accepted file's size is told; a refused one's number is, and the pointers' places are left.
use Rattle.std.proofs.Common.{sym, arith}
use Rattle.c_answers.proofs.AnswerLaws.{ok-told}
use Rattle.mtb.proofs.FitLaws.{SmallSize, size_small}
use Rattle.mtb.proofs.p6.mtb_p6_size.Goals as goal

pub overflow_cast-w : goal.overflow_cast-w
overflow_cast-w c =
    let m = ok-told _ _ _ c.in-Ok.ensures in
    let small : SmallSize c.in-Ok.size = rw m.1 (size_small _ (sym m.0)) in
    omega (arith, small)

pub overflow_cast-h : goal.overflow_cast-h
overflow_cast-h c =
    let m = ok-told _ _ _ c.in-Ok.ensures in
    let small : SmallSize c.in-Ok.size = rw m.1 (size_small _ (sym m.0)) in
    omega (arith, small)
