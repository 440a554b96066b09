-- Frame 0's offset is the reference's turned round. Each offset is put after those before it, and the last one after the loop.
use Rattle.std.proofs.Common.{◌≡◌, ◌+◌, ◌-◌, sym, refl, ap, ◌∙◌, arith}
use Rattle.rules.specs.Series.{opposite, frame_offset, offset_list}
use Rattle.rules.proofs.SeriesLaws.{frame-turned}
use Rattle.offsets.specs.PairOffsets.{pair_offset}
use Rattle.offsets.proofs.PairOffsetLaws.{turn-ready, next-ready, next-frame, put_next}
use Rattle.offsets.proofs.frame_offsets.Goals as goal

pub turned-m-requires : goal.turned-m-requires
turned-m-requires c =
    let a = c.args in
    turn-ready a.pairs.now a.r c.from_first.result (omega arith) (λ j l. c.requires.small j (omega arith)) c.from_first.ensures

pub loop-k-init : goal.loop-k-init
unfolding offset_list
loop-k-init c =
    let a = c.args in
    record {
      next = c.turned-m.ensures ∙ ap opposite c.from_first.ensures ∙ sym (frame-turned (pair_offset a.pairs.now) a.r);
      written = refl;
    }

pub next_offset-m-requires-clause-near : goal.next_offset-m-requires-clause-near
next_offset-m-requires-clause-near c =
    let a = c.args in
    let l = c.loop-k in
    next-ready a.pairs.now (a.n - 1) a.r l.k l.m (omega arith) c.requires.small (omega arith) (omega arith) l.invariant.next

pub loop-k-preserved : goal.loop-k-preserved
loop-k-preserved c =
    let a = c.args in
    let l = c.loop-k in
    let frames = frame_offset (pair_offset a.pairs.now) a.r in
    record {
      next = next-frame a.pairs.now a.r l.k l.m c.next_offset-m.result l.invariant.next c.next_offset-m.ensures;
      written = put_next frames a.offsets.now l.offsets l.k l.invariant.written (omega arith) l.m c.put_offset.new.list l.invariant.next c.put_offset.ensures;
    }

pub returns : goal.returns
returns c =
    let a = c.args in
    let l = c.loop-k in
    let frames = frame_offset (pair_offset a.pairs.now) a.r in
    let last : l.k ≡ a.n - 1 = omega arith in
    let all : l.k + 1 ≡ a.n = omega arith in
    rw all at
    (put_next frames a.offsets.now l.offsets l.k l.invariant.written (omega arith) l.m c.put_offset-2.new.list l.invariant.next
    (rw (← last) at c.put_offset-2.ensures))
