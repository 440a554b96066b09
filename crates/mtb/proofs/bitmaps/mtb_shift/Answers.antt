-- The offered call's own contract, at the moves as they were passed; its answer is told as a number.
use Rattle.std.proofs.Common.{List, ℕ, subst}
use lib.ListN.{length}
use mir.Facts.{to_z-of_z}
use Rattle.rules.specs.Planes.{shifted}
use Rattle.rules.specs.Bitmaps.{bit_at, packed}
use Rattle.rules.specs.Calls.{Fills}
use Rattle.rules.specs.Refusals.{shift_refusal}
use Rattle.rules.specs.RefusalNumbers.{coded}
use Rattle.c_answers.proofs.AnswerLaws.{written-again}
use Rattle.mtb.proofs.bitmaps.mtb_shift.Goals as goal

pub returns : goal.returns
returns c =
    let a = c.args in
    rw (c.refusal_in.ensures, written-again)
    (subst (λ (out : List ℕ). Fills (shift_refusal a.w a.h (length a.bitmap.now) (length a.out.now)) out a.out.now c.shift.new.out (coded c.shift.result))
    (λ i. packed a.w a.h (shifted a.w a.h (to_z-of_z c.ranges.dx i) (to_z-of_z c.ranges.dy i) (bit_at a.w a.h a.bitmap.now)))
    c.shift.ensures)
