-- Both source rows and the result row lie in their frames; one more row of the half is written.
use Rattle.std.proofs.Common.{◌/◌, arith}
use Rattle.std.proofs.Math.Nat.{zero-add}
use Rattle.rules.proofs.FrameLaws.{row_fits}
use Rattle.half_block.proofs.HalfLaws.{rows_fit, half-more}
use Rattle.halve.proofs.halving.halve_frame.Goals as goal

pub loop-y-preserved : goal.loop-y-preserved
loop-y-preserved c =
    let lp = c.loop-y in
    let a = c.args in
    half-more a.src.now a.dst.now lp.dst c.halve_row.new.dst 0 a.w lp.y lp.invariant (rw zero-add c.halve_row.ensures)

pub halve_row-requires-clause-row_fits : goal.halve_row-requires-clause-row_fits
halve_row-requires-clause-row_fits c =
    let a = c.args in
    let y = c.loop-y.y in
    omega (arith, rows_fit a.w a.h y c.loop-y-test.true, row_fits (a.w / 2) (a.h / 2) y c.loop-y-test.true)
