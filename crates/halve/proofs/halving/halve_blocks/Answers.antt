-- One more block's results are stored.
use Rattle.half_block.proofs.HalfLaws.{even-half, block_more}
use Rattle.halve.proofs.halving.halve_blocks.Goals as goal

pub loop-b-preserved : goal.loop-b-preserved
loop-b-preserved c =
    let lp = c.loop-b in
    let a = c.args in
    let all = c.seconds-all in
    block_more a.src.now all.result a.dst.now lp.dst c.store_block.new.dst a.top a.bottom a.to lp.b lp.invariant
    (even-half a.src.now all.result _ _ all.ensures)
    c.store_block.ensures
