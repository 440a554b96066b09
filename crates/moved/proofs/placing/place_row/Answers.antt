-- The source row lies above the frame, in it or below it, a return each.
use Rattle.std.proofs.Common.{◌+◌, ◌-◌, ◌*◌, arith}
use Rattle.rules.proofs.FrameLaws.{row-ext, row_fits}
use Rattle.moved.proofs.SpanLaws.{row_zeros, bytes_fit, row-above, row_from, row_below}
use Rattle.moved.proofs.placing.place_row.Goals as goal

pub returns-then-y-rows : goal.returns-then-y-rows
returns-then-y-rows c =
    let a = c.args in
    row-ext _ _ _ _ _ _ (λ i l. row-above a.w a.raster.now a.columns a.rows a.y (omega arith) i)
    (row_zeros _ (3 * a.w) _ a.out.now _ (omega (arith, bytes_fit a.w a.h a.y (omega arith))) (omega arith) (c.fill.ensures.after (λ y e. e)))

pub copy_row-requires-clause-source : goal.copy_row-requires-clause-source
copy_row-requires-clause-source c =
    let a = c.args in
    omega (arith, row_fits a.w a.h (a.rows.from + (a.y - a.rows.to)) (omega arith))

pub returns-then-k-rows : goal.returns-then-k-rows
returns-then-k-rows c =
    let a = c.args in
    row-ext _ _ _ _ _ _ (λ i l. row_from a.w a.raster.now a.columns a.rows a.y (omega arith) (omega arith) i) c.copy_row.ensures

pub returns : goal.returns
returns c =
    let a = c.args in
    row-ext _ _ _ _ _ _ (λ i l. row_below a.w a.raster.now a.columns a.rows a.y (omega arith) (omega arith) i)
    (row_zeros _ (3 * a.w) _ a.out.now _ (omega (arith, bytes_fit a.w a.h a.y (omega arith))) (omega arith) (c.fill-2.ensures.after (λ y e. e)))
