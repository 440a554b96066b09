-- Each coordinate is far from the limits of an i32.
use Rattle.std.proofs.Common.{arith}
use Rattle.rules.specs.Limits.{max_offset}
use Rattle.rules.proofs.OffsetLaws.{near-more}
use Rattle.rules.proofs.SignedLaws.{sum_is}
use Rattle.offsets.specs.PairOffsets.{max_frame_offset, pair_offset}
use Rattle.offsets.proofs.next_offset.Goals as goal

pub returns : goal.returns
returns c =
    let m = c.args.m in
    let pair = pair_offset c.args.pairs.now c.args.k in
    let far = near-more max_frame_offset 2000000 m (omega arith) c.requires.near.0 in
    let near = near-more max_offset 2000000 pair (omega arith) c.requires.near.1 in
    λ i. record { dx = sum_is m.dx pair.dx far.dx near.dx i; dy = sum_is m.dy pair.dy far.dy near.dy i }
