-- The number's text is that of its size, after a `-` where it is negative.
use Rattle.std.proofs.Common.{length, refl, ap, arith}
use Rattle.output_lines.proofs.MagnitudeLaws.{text-above, text-below}
use Rattle.output_lines.proofs.WriteLaws.{wrote_one, wrote_then}
use Rattle.output_lines.proofs.put_signed.Goals as goal

pub put-next-requires : goal.put-next-requires
put-next-requires c = let e = ap length (text-below c.args.n c.ranges.n c.if-n-lt0.true _ refl) in omega arith

pub put_number-requires : goal.put_number-requires
put_number-requires c =
    let e = ap length (text-below c.args.n c.ranges.n c.if-n-lt0.true c.unsigned_abs.result c.unsigned_abs.ensures.value) in
    let minus = wrote_one _ _ _ _ _ (c.put-next.ensures.place, c.put-next.ensures.output) in
    omega arith

pub returns-then-n-lt0 : goal.returns-then-n-lt0
returns-then-n-lt0 c =
    rw (text-below c.args.n c.ranges.n c.if-n-lt0.true c.unsigned_abs.result c.unsigned_abs.ensures.value)
    (wrote_then _ _ _ _ _ _ _ _ (wrote_one _ _ _ _ _ (c.put-next.ensures.place, c.put-next.ensures.output)) (c.put_number.ensures.place, c.put_number.ensures.output))

pub put_number-requires-2 : goal.put_number-requires-2
put_number-requires-2 c =
    let e = ap length (text-above c.args.n c.ranges.n c.if-n-lt0.false c.unsigned_abs-2.result c.unsigned_abs-2.ensures.value) in
    omega arith

pub returns : goal.returns
returns c =
    rw (text-above c.args.n c.ranges.n c.if-n-lt0.false c.unsigned_abs-2.result c.unsigned_abs-2.ensures.value)
    (wrote_one _ _ _ _ _ (c.put_number-2.ensures.place, c.put_number-2.ensures.output))
