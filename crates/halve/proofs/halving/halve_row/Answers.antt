-- The blocks' results and the rest's lie side by side.
use Rattle.std.proofs.Common.{◌*◌, arith}
use Rattle.half_block.proofs.HalfLaws.{rest_more}
use Rattle.halve.proofs.halving.halve_row.Goals as goal

pub returns : goal.returns
returns c =
    let a = c.args in
    rest_more a.src.now a.dst.now c.halve_blocks.new.dst c.halve_rest.new.dst a.top a.bottom a.to (32 * c.block_count-blocks.result) a.n
    (omega arith)
    c.halve_blocks.ensures
    c.halve_rest.ensures
