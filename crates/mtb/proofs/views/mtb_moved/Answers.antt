-- The offered call's own contract, at the moves as they were passed; its answer is told as a number.
use Rattle.std.proofs.Common.{List, ℕ, ◌*◌, subst}
use lib.ListN.{length}
use mir.Facts.{to_z-of_z}
use Rattle.rules.specs.Frames.{rows}
use Rattle.rules.specs.Calls.{Fills}
use Rattle.rules.specs.RefusalNumbers.{coded}
use Rattle.moved.specs.Moved.{moved_byte, moved_refusal}
use Rattle.c_answers.proofs.AnswerLaws.{written-again}
use Rattle.mtb.proofs.views.mtb_moved.Goals as goal

pub returns : goal.returns
returns c =
    let a = c.args in
    rw (c.refusal_in.ensures, written-again)
    (subst (λ (out : List ℕ). Fills (moved_refusal a.w a.h (length a.raster.now) (length a.out.now)) out a.out.now c.moved.new.out (coded c.moved.result))
    (λ i. rows (3 * a.w) a.h (moved_byte a.w a.h (to_z-of_z c.ranges.dx i) (to_z-of_z c.ranges.dy i) a.raster.now))
    c.moved.ensures)
