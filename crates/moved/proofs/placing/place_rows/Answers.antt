use Rattle.std.proofs.Common.{◌*◌, zero-add}
use Rattle.rules.proofs.FrameLaws.{frame-none, frame-more}
use Rattle.moved.proofs.placing.place_rows.Goals as goal

pub loop-y-init : goal.loop-y-init
loop-y-init c = frame-none _ _ _ _

pub loop-y-preserved : goal.loop-y-preserved
loop-y-preserved c = frame-more 0 _ _ _ c.loop-y.y c.loop-y.out _ c.loop-y.invariant (rw (← zero-add (c.loop-y.y * (3 * c.args.w))) at c.place_row.ensures)
