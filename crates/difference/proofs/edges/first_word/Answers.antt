-- The four words as they stand are the rows' pixels, since all are full; no pixel lies before the moved row.
use Rattle.std.proofs.Common.{◌+◌, ◌*◌, ◌%◌, ◌^◌, bit_and, get_or, arith}
use Rattle.words.proofs.MoveLaws.{row-whole}
use Rattle.words.proofs.JoinLaws.{first-moved, full-le}
use Rattle.differing.proofs.KeptLaws.{kept_word}
use Rattle.differing.proofs.DifferLaws.{differ-adds}
use Rattle.difference.proofs.edges.first_word.Goals as goal

pub bounds-pair-i : goal.bounds-pair-i
bounds-pair-i c = omega (arith, full-le c.args.m.w)

pub bounds-pair-from : goal.bounds-pair-from
bounds-pair-from c = omega (arith, full-le c.args.m.w)

pub bounds-pair-i-2 : goal.bounds-pair-i-2
bounds-pair-i-2 c = omega (arith, full-le c.args.m.w)

pub bounds-pair-from-2 : goal.bounds-pair-from-2
bounds-pair-from-2 c = omega (arith, full-le c.args.m.w)

pub returns : goal.returns
returns c =
    let a = c.args in
    let p = a.pair.now in
    let d = a.m.q * 64 + a.m.r in
    let k1 = get_or p.exclusion1.now (a.base + a.k) 0 in
    let k2 = get_or p.exclusion2.now a.from 0 * 2 ^ a.m.r % 2 ^ 64 in
    let u2 = get_or p.threshold2.now a.from 0 * 2 ^ a.m.r % 2 ^ 64 in
    let here = c.requires.here in
    let e = first-moved p.exclusion2.now a.from a.m.w a.m.q a.m.r a.k here.0 (omega (arith, here.1)) in
    let t = first-moved p.threshold2.now a.from a.m.w a.m.q a.m.r a.k here.0 (omega (arith, here.1)) in
    differ-adds p.threshold1.now p.exclusion1.now p.threshold2.now p.exclusion2.now a.base a.from a.m.w d a.k (bit_and k1 k2)
    (kept_word p.exclusion1.now p.exclusion2.now a.base a.from a.m.w d a.k k1 k2 (row-whole p.exclusion1.now a.base a.m.w a.k (omega (arith, here.1))) (λ i l m. e i l))
    u2 c.tally.result (λ i l m n. t i l) c.tally.ensures
