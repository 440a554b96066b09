-- The row lies in the raster, and in its place of the memory; one more row of the crop is written.
use Rattle.crop.proofs.CropLaws.{crop-more}
use Rattle.crop.proofs.convert_crop.Goals as goal

pub loop-y-preserved : goal.loop-y-preserved
loop-y-preserved c =
    let a = c.args in
    let lp = c.loop-y in
    crop-more a.crop a.w a.to lp.y a.raster.now a.grey.now lp.grey c.convert.new.grey lp.invariant c.convert.ensures
