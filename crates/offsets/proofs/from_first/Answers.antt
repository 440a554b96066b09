-- Frame 0 is not away from itself, and each frame is one pair on.
use Rattle.std.proofs.Common.{sym, arith}
use Rattle.rules.proofs.SeriesLaws.{frame_at}
use Rattle.offsets.specs.PairOffsets.{pair_offset}
use Rattle.offsets.proofs.PairOffsetLaws.{next-ready, next-frame}
use Rattle.offsets.proofs.from_first.Goals as goal

pub loop-k-init : goal.loop-k-init
loop-k-init c = sym (frame_at (pair_offset c.args.pairs.now) 0)

pub next_offset-sum-requires-clause-near : goal.next_offset-sum-requires-clause-near
next_offset-sum-requires-clause-near c =
    let a = c.args in
    let l = c.loop-k in
    next-ready a.pairs.now a.r 0 l.k l.sum (omega arith) c.requires.small_pairs (omega arith) (omega arith) l.invariant

pub loop-k-preserved : goal.loop-k-preserved
loop-k-preserved c =
    let l = c.loop-k in
    next-frame c.args.pairs.now 0 l.k l.sum c.next_offset-sum.result l.invariant c.next_offset-sum.ensures
