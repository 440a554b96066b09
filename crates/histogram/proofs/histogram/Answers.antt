-- The turns of four and the rest together count every pixel once, and each pixel is a byte.
use Rattle.std.proofs.Common.{length, ◌∙◌, arith}
use Rattle.histogram.proofs.CountLaws.{count-le, tally-none, tally-rest}
use Rattle.histogram.proofs.CountSumLaws.{counts_of}
use Rattle.histogram.proofs.histogram.Goals as goal

pub count_fours-requires : goal.count_fours-requires
count_fours-requires c = (c.requires, tally-none _)

pub count_rest-requires : goal.count_rest-requires
count_rest-requires c =
    let t = c.count_fours.ensures in
    (omega arith, c.requires, t.sizes.0, λ v. omega (arith, t.counts v))

pub merge-requires : goal.merge-requires
merge-requires c =
    let f = c.count_fours in
    let r = c.count_rest in
    let l = c.args.grey.now in
    (r.ensures.0, λ v. omega (arith, tally-rest l _ f.new.a f.new.b f.new.c f.new.d r.new.table f.ensures r.ensures.1 v, count-le l (length l) v))

pub returns : goal.returns
returns c =
    let f = c.count_fours in
    let r = c.count_rest in
    let l = c.args.grey.now in
    counts_of _ _
    (λ v k. c.merge.ensures v k ∙ tally-rest l _ f.new.a f.new.b f.new.c f.new.d r.new.table f.ensures r.ensures.1 v)
    (λ i k. let byte = c.type_inv.grey i in omega arith)
