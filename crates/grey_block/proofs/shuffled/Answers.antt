-- Two more bytes are laid.
use Rattle.std.proofs.Common.{arith}
use Rattle.std.proofs.Math.ListN.{length-set}
use Rattle.grey_block.specs.GreyBlocks.{shuffled_at}
use Rattle.grey_block.proofs.ColourLaws.{shuffled-even, shuffled-odd, two-more}
use Rattle.grey_block.proofs.shuffled.Goals as goal

pub loop-k-preserved : goal.loop-k-preserved
loop-k-preserved c =
    let lp = c.loop-k in
    let all = c.args.all.now in
    record {
      size = simp length-set lp.invariant.size;
      laid = two-more (shuffled_at all) lp.k lp.out _ _ (omega arith) lp.invariant.laid (shuffled-even all lp.k) (shuffled-odd all lp.k);
    }
