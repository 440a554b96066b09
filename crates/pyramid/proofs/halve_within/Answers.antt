-- The memory is what lies above the cut, left as it was, and the half below it.
use Rattle.std.proofs.Common.{arith}
use borrow.Author.Rules.{part_to_end}
use Rattle.pyramid.proofs.WithinLaws.{half-below}
use Rattle.pyramid.proofs.halve_within.Goals as goal

pub returns : goal.returns
returns c =
    let a = c.args in
    let cut = c.split_at_mut-above.ensures in
    rw cut.front
    (half-below a.grey.now c.halve_frame.new.dst a.from a.w a.h a.to (omega arith) (omega arith)
    (rw (part_to_end, cut.front, cut.back) at c.halve_frame.ensures))
