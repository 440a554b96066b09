-- The blocks' grey values and the rest's lie side by side.
use Rattle.std.proofs.Common.{◌*◌, ◌/◌, arith}
use Rattle.grey.proofs.ConversionLaws.{grey-rest}
use Rattle.grey.proofs.conversion.convert.Goals as goal

pub returns : goal.returns
returns c =
    let a = c.args in
    grey-rest a.raster.now a.grey.now c.convert_blocks.new.grey c.convert_rest.new.grey a.to (32 * (a.n / 32)) a.n
    (omega arith)
    c.convert_blocks.ensures
    c.convert_rest.ensures
