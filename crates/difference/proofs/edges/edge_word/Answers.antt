-- The masked words are the rows' pixels; without a kept pixel nothing is added.
use Rattle.std.proofs.Common.{◌+◌, ◌*◌, bit_and, arith}
use Rattle.words.proofs.JoinLaws.{moved-word}
use Rattle.popcount.proofs.RowLaws.{row-words-le}
use Rattle.differing.proofs.KeptLaws.{kept_word}
use Rattle.differing.proofs.DifferLaws.{none-adds, differ-adds}
use Rattle.difference.proofs.edges.edge_word.Goals as goal

pub moved_word-exclusion-requires-clause-near : goal.moved_word-exclusion-requires-clause-near
moved_word-exclusion-requires-clause-near c = omega (arith, row-words-le c.args.m.w c.args.m.moves.width)

pub row_word-requires-clause-near : goal.row_word-requires-clause-near
row_word-requires-clause-near c = omega (arith, row-words-le c.args.m.w c.args.m.moves.width)

pub moved_word-threshold-requires-clause-near : goal.moved_word-threshold-requires-clause-near
moved_word-threshold-requires-clause-near c = omega (arith, row-words-le c.args.m.w c.args.m.moves.width)

pub returns-then-kept-eq0 : goal.returns-then-kept-eq0
returns-then-kept-eq0 c =
    let a = c.args in
    let p = a.pair.now in
    let d = a.m.q * 64 + a.m.r in
    let r = c.row_word in
    let v = c.moved_word-exclusion in
    let e = moved-word p.exclusion2.now a.from a.m.w d a.k v.result v.ensures in
    none-adds p.threshold1.now p.exclusion1.now p.threshold2.now p.exclusion2.now a.base a.from a.m.w d a.k (bit_and r.result v.result)
    (kept_word p.exclusion1.now p.exclusion2.now a.base a.from a.m.w d a.k r.result v.result r.ensures (λ i l m. e i l))
    c.if-kept-eq0.true

pub returns : goal.returns
returns c =
    let a = c.args in
    let p = a.pair.now in
    let d = a.m.q * 64 + a.m.r in
    let r = c.row_word in
    let v = c.moved_word-exclusion in
    let u = c.moved_word-threshold in
    let e = moved-word p.exclusion2.now a.from a.m.w d a.k v.result v.ensures in
    let t = moved-word p.threshold2.now a.from a.m.w d a.k u.result u.ensures in
    differ-adds p.threshold1.now p.exclusion1.now p.threshold2.now p.exclusion2.now a.base a.from a.m.w d a.k (bit_and r.result v.result)
    (kept_word p.exclusion1.now p.exclusion2.now a.base a.from a.m.w d a.k r.result v.result r.ensures (λ i l m. e i l))
    u.result c.tally.result (λ i l m n. t i l) c.tally.ensures
