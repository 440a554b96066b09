-- The word's bits are added; without a compared pixel it adds nothing.
use Rattle.std.proofs.Common.{◌+◌, ◌*◌, sym, ◌∙◌}
use Rattle.tallies.proofs.TallyLaws.{word-both}
use Rattle.differing.specs.RowDifferences.{moved_differ, moved_kept}
use Rattle.differing.proofs.KeptLaws.{kept-is}
use Rattle.differing.proofs.DifferLaws.{none-adds}
use Rattle.difference.proofs.interior.interior_word.Goals as goal

pub returns-then-v-eq0 : goal.returns-then-v-eq0
returns-then-v-eq0 c =
    let a = c.args in
    let p = a.pair.now in
    let d = a.m.q * 64 + a.m.r in
    let v = c.differing_word-v in
    none-adds p.threshold1.now p.exclusion1.now p.threshold2.now p.exclusion2.now a.base a.from a.m.w d a.k v.result.kept
    (λ i l. v.ensures.1 i l ∙ sym (kept-is p.exclusion1.now p.exclusion2.now a.base a.from a.m.w d (a.k * 64 + i))) c.if-v-eq0.true

pub returns : goal.returns
returns c =
    let a = c.args in
    let v = c.differing_word-v in
    word-both (moved_differ a.pair.now a.base a.from a.m) (moved_kept a.pair.now a.base a.from a.m) a.k v.result c.tally.result v.ensures c.tally.ensures
