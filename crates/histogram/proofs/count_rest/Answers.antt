-- The table has room for a pixel more, and then counts it.
use Rattle.std.proofs.Common.{get_or, arith, ◌∙◌}
use Rattle.histogram.proofs.CountLaws.{count-more, count-le}
use Rattle.histogram.proofs.count_rest.Goals as goal

pub bump-requires : goal.bump-requires
bump-requires c =
    let t = c.loop-i in
    let l = c.args.grey.now in
    let v = get_or l t.i 0 in
    (t.invariant.size, omega (arith, t.invariant.grown v, c.requires.3 v, count-le l t.i v))

pub loop-i-preserved : goal.loop-i-preserved
loop-i-preserved c =
    let t = c.loop-i in
    let e = c.bump.ensures in
    record {
      size = e.size ∙ t.invariant.size;
      grown = λ v. omega (arith, e.counts v, t.invariant.grown v, count-more c.args.grey.now t.i v);
    }
