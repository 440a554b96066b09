-- The next count has room, after the 32 before it.
use Rattle.std.proofs.Common.{[], ◌∷◌, take, ap, arith}
use Rattle.std.proofs.lemmas.List.{length-append}
use lib.Seq.{take_all}
use Rattle.output_lines.specs.Lines.{counts_text}
use Rattle.output_lines.proofs.TextLaws.{counts-more, counts-room}
use Rattle.output_lines.proofs.WriteLaws.{wrote_none, wrote_then}
use Rattle.output_lines.proofs.put_counts.Goals as goal

pub loop-count-init : goal.loop-count-init
unfolding counts_text
loop-count-init c = wrote_none _ _ (omega arith)

pub put-gap-requires : goal.put-gap-requires
put-gap-requires c = omega (arith, counts-room c.args.counts.now c.loop-count.count-index (omega arith))

pub put_number-next-requires : goal.put_number-next-requires
put_number-next-requires c =
    let l = c.loop-count in
    let counts = c.args.counts.now in
    let blank = wrote_then _ _ _ _ _ _ _ _ l.invariant (c.put-gap.ensures.place, c.put-gap.ensures.output) in
    omega (arith, c.requires, counts-room counts l.count-index (omega arith), length-append (counts_text (take l.count-index counts)) (32 ∷ []))

pub loop-count-preserved : goal.loop-count-preserved
loop-count-preserved c =
    let l = c.loop-count in
    let blank = wrote_then _ _ _ _ _ _ _ _ l.invariant (c.put-gap.ensures.place, c.put-gap.ensures.output) in
    rw (counts-more c.args.counts.now l.count-index (omega arith)) (wrote_then _ _ _ _ _ _ _ _ blank (c.put_number-next.ensures.place, c.put_number-next.ensures.output))

pub returns : goal.returns
returns c = rw (ap counts_text (take_all c.loop-count.count-index c.args.counts.now (omega arith))) at c.loop-count.invariant
