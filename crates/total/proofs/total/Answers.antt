-- An accepted call knows its sizes.
use Rattle.std.proofs.Common.{sym, arith}
use lib.ListN.{length}
use Rattle.rules.proofs.RefusalLaws.{total-ok}
use Rattle.total.proofs.total.Goals as goal

pub total_frame-requires-clause-width : goal.total_frame-requires-clause-width
total_frame-requires-clause-width c =
    let a = c.args in
    let k = total-ok a.w a.h (length a.bitmap.now) (sym c.in_ok-total_refusal.ensures) in
    (omega arith, omega arith)

pub total_frame-requires-clause-height : goal.total_frame-requires-clause-height
total_frame-requires-clause-height c =
    let a = c.args in
    let k = total-ok a.w a.h (length a.bitmap.now) (sym c.in_ok-total_refusal.ensures) in
    omega arith

pub total_frame-requires-clause-room : goal.total_frame-requires-clause-room
total_frame-requires-clause-room c =
    let a = c.args in
    let k = total-ok a.w a.h (length a.bitmap.now) (sym c.in_ok-total_refusal.ensures) in
    omega arith
