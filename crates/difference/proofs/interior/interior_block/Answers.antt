-- The seven words' bits are added.
use Rattle.tallies.proofs.TallyLaws.{seven-both}
use Rattle.differing.specs.RowDifferences.{moved_differ, moved_kept}
use Rattle.difference.proofs.interior.interior_block.Goals as goal

pub returns : goal.returns
returns c =
    let a = c.args in
    let w1 = c.differing_word in
    let w2 = c.differing_word-2 in
    let w3 = c.differing_word-3 in
    let w4 = c.differing_word-4 in
    let w5 = c.differing_word-5 in
    let w6 = c.differing_word-6 in
    let w7 = c.differing_word-7 in
    seven-both (moved_differ a.pair.now a.base a.from a.m) (moved_kept a.pair.now a.base a.from a.m) a.k
    w1.result w2.result w3.result w4.result w5.result w6.result w7.result c.seven_word_tally.result
    w1.ensures w2.ensures w3.ensures w4.ensures w5.ensures w6.ensures w7.ensures c.seven_word_tally.ensures
