-- The answer by the refusal number; an accepted call knows its sizes, so that the two numbers of the frame's tally come apart, and the constant is a table of counts.
use Rattle.std.specs.Prelude.{Ok}
use mathlib.Core.Path.{◌≡◌, sym, ◌∙◌}
use native.Mathlib.Omega.{arith}
use lib.ListN.{length}
use mir.Facts.{to_z-of_z}
use Rattle.rules.specs.Refusals.{difference_refusal}
use Rattle.rules.specs.Differences.{difference, compared}
use Rattle.rules.specs.Calls.{planes_of, tally_of}
use Rattle.rules.proofs.RefusalLaws.{difference-ok}
use Rattle.rules.proofs.ShareLaws.{difference-le}
use Rattle.tallies.specs.Tallies.{tally}
use Rattle.tallies.proofs.TallyLaws.{tally-split}
use Rattle.difference.proofs.difference.Goals as goal

pub tally_frame-both-requires-clause-width : goal.tally_frame-both-requires-clause-width
tally_frame-both-requires-clause-width c =
    let a = c.args in
    let k = difference-ok a.w a.h (length a.threshold1.now) (length a.exclusion1.now) (length a.threshold2.now) (length a.exclusion2.now)
    (sym c.in_ok-difference_refusal.ensures) in
    omega (arith, k.size)

pub tally_frame-both-requires-clause-height : goal.tally_frame-both-requires-clause-height
tally_frame-both-requires-clause-height c =
    let a = c.args in
    let k = difference-ok a.w a.h (length a.threshold1.now) (length a.exclusion1.now) (length a.threshold2.now) (length a.exclusion2.now)
    (sym c.in_ok-difference_refusal.ensures) in
    omega (arith, k.size)

pub tally_frame-both-requires-clause-frames : goal.tally_frame-both-requires-clause-frames
tally_frame-both-requires-clause-frames c =
    let a = c.args in
    let k = difference-ok a.w a.h (length a.threshold1.now) (length a.exclusion1.now) (length a.threshold2.now) (length a.exclusion2.now)
    (sym c.in_ok-difference_refusal.ensures) in
    record { threshold1 = omega arith; exclusion1 = omega arith; threshold2 = omega arith; exclusion2 = omega arith }

pub returns : goal.returns
returns c =
    let a = c.args in
    let f = c.tally_frame-both in
    let s = c.split in
    let one = planes_of a.w a.h a.threshold1.now a.exclusion1.now in
    let two = planes_of a.w a.h a.threshold2.now a.exclusion2.now in
    let value = tally_of a.w a.h a.dx a.dy one two in
    let k = difference-ok a.w a.h (length a.threshold1.now) (length a.exclusion1.now) (length a.threshold2.now) (length a.exclusion2.now)
    (sym c.in_ok-difference_refusal.ensures) in
    let numbers : (s.result.count ≡ value.count) × (s.result.compared ≡ value.compared) =
    tally-split value.count value.compared f.result s.result.count s.result.compared
    (omega (arith, k.size.area, difference-le a.w a.h a.dx a.dy one two))
    (f.ensures
    ∙ (λ j. tally (difference a.w a.h (to_z-of_z c.ranges.dx j) (to_z-of_z c.ranges.dy j) one two)
    (compared a.w a.h (to_z-of_z c.ranges.dx j) (to_z-of_z c.ranges.dy j) one two)))
    s.ensures.0 s.ensures.1 in
    rw (← c.in_ok-difference_refusal.ensures) (λ j. Ok (record { count = numbers.0 j; compared = numbers.1 j }))
