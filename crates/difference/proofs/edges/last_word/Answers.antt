-- The second frame's word is masked, and no pixel lies past it.
use Rattle.std.proofs.Common.{arith}
use Rattle.popcount.proofs.RowLaws.{row-words-le, row-words-all}
use Rattle.differing.proofs.DifferLaws.{last-adds}
use Rattle.difference.proofs.edges.last_word.Goals as goal

pub row_word-requires-clause-near : goal.row_word-requires-clause-near
row_word-requires-clause-near c = omega (arith, row-words-le c.args.m.w c.args.m.moves.width)

pub returns : goal.returns
returns c =
    let a = c.args in
    let p = a.pair.now in
    let b = c.row_word in
    let v = c.joined_word in
    let u = c.joined_word-2 in
    last-adds p.threshold1.now p.exclusion1.now p.threshold2.now p.exclusion2.now a.base a.from a.m.w a.m.q a.m.r a.k v.result u.result c.tally.result a.m.moves.bits
    b.result c.requires.here.0 (omega (arith, row-words-all a.m.w)) b.ensures v.ensures u.ensures c.tally.ensures
