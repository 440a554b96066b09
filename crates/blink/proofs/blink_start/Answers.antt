-- An accepted call has the sizes that keep the row in the raster.
use Rattle.std.proofs.Common.{sym, arith}
use lib.ListN.{length}
use Rattle.blink.specs.Blink.{row_start}
use Rattle.blink.proofs.BlinkLaws.{blink-ok}
use Rattle.blink.proofs.blink_start.Goals as goal

pub overflow_mul-result : goal.overflow_mul-result
overflow_mul-result c =
    let a = c.args in
    let k = blink-ok a.w a.h a.y (length a.first.now) (length a.second.now) (sym c.in_ok-blink_refusal.ensures) in
    omega arith

pub overflow_mul-result-2 : goal.overflow_mul-result-2
unfolding row_start
overflow_mul-result-2 c =
    let a = c.args in
    let k = blink-ok a.w a.h a.y (length a.first.now) (length a.second.now) (sym c.in_ok-blink_refusal.ensures) in
    omega (arith, k.inside, k.size)

pub returns : goal.returns
unfolding row_start
returns c = rw (← c.in_ok-blink_refusal.ensures)
