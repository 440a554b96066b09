-- One more block of grey values is copied to its place.
use Rattle.std.proofs.Common.{◌+◌, ◌*◌, arith}
use Rattle.grey.proofs.ConversionLaws.{block-grey, grey-more, row-copied}
use Rattle.grey.proofs.conversion.convert_blocks.Goals as goal

pub loop-b-preserved : goal.loop-b-preserved
loop-b-preserved c =
    let lp = c.loop-b in
    let a = c.args in
    let raster = a.raster.now in
    let block = c.weighed-block.result in
    grey-more raster block a.grey.now lp.grey _ a.to lp.b lp.invariant
    (block-grey raster c.block_bytes-all.result c.planes-colours.result block (96 * lp.b)
    c.block_bytes-all.ensures c.planes-colours.ensures c.weighed-block.ensures)
    (row-copied (a.to + 32 * lp.b) 32 _ lp.grey block _ (omega arith) (omega arith) c.copy_from_slice.ensures.after c.copy_from_slice.ensures.len)
