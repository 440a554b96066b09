-- An accepted call's area is told; a refused one's number is, and the pointers' places are left.
use Rattle.std.proofs.Common.{sym, arith}
use Rattle.c_answers.proofs.AnswerLaws.{ok-told}
use Rattle.mtb.proofs.FitLaws.{SmallArea, area_small}
use Rattle.mtb.proofs.views.mtb_common_area.Goals as goal

pub overflow_cast-left : goal.overflow_cast-left
overflow_cast-left c =
    let m = ok-told _ _ _ c.in-Ok.ensures in
    let small : SmallArea c.in-Ok.area = rw m.1 (area_small _ _ _ _ (sym m.0)) in
    omega (arith, small)

pub overflow_cast-right : goal.overflow_cast-right
overflow_cast-right c =
    let m = ok-told _ _ _ c.in-Ok.ensures in
    let small : SmallArea c.in-Ok.area = rw m.1 (area_small _ _ _ _ (sym m.0)) in
    omega (arith, small)

pub overflow_cast-top : goal.overflow_cast-top
overflow_cast-top c =
    let m = ok-told _ _ _ c.in-Ok.ensures in
    let small : SmallArea c.in-Ok.area = rw m.1 (area_small _ _ _ _ (sym m.0)) in
    omega (arith, small)

pub overflow_cast-bottom : goal.overflow_cast-bottom
overflow_cast-bottom c =
    let m = ok-told _ _ _ c.in-Ok.ensures in
    let small : SmallArea c.in-Ok.area = rw m.1 (area_small _ _ _ _ (sym m.0)) in
    omega (arith, small)
