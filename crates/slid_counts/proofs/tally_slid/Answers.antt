-- Each part is lent as far as the words reach, which is the list from its place on; the numbers against the slid frame are those at the offset.
use Rattle.std.proofs.Common.{◌<◌, ◌∙◌, pos, arith}
use native.Mathlib.Nat.{mul-le-mul}
use Rattle.rules.specs.Differences.{difference, compared}
use Rattle.rules.proofs.SignedLaws.{small-fits}
use Rattle.rules.proofs.ShareLaws.{difference-le}
use Rattle.tallies.specs.Tallies.{tally}
use Rattle.tallies.proofs.TallyLaws.{tally-split}
use Rattle.slid_counts.specs.SlidPlaces.{first_in, slid_in}
use Rattle.slid_counts.proofs.SlidPartLaws.{parts_same}
use Rattle.slid_counts.proofs.SlidCountLaws.{slid-count, slid-compared}
use Rattle.slid_counts.proofs.tally_slid.Goals as goal

-- the two numbers of the parts, each as it is lent
pub returns : goal.returns
returns c =
    let a = c.args in
    let b = c.bitmap_words-n in
    let first = first_in a.w a.h a.words.now in
    let second = slid_in a.w a.h a.words.now in
    let fits = small-fits a.m.dy (let near = c.requires.near.dy in omega arith) in
    let whole = c.overlap_frame.ensures
    ∙ parts_same a.w a.h b.result a.words.now b.ensures
    (λ dy p q. tally (difference a.w a.h (pos 0) dy p q) (compared a.w a.h (pos 0) dy p q)) a.m.dy fits in
    let small : difference a.w a.h (pos 0) a.m.dy first second < 4294967296 =
    omega (arith, difference-le a.w a.h (pos 0) a.m.dy first second, mul-le-mul c.requires.sides.width c.requires.sides.height) in
    let two = tally-split (difference a.w a.h (pos 0) a.m.dy first second) (compared a.w a.h (pos 0) a.m.dy first second)
    c.overlap_frame.result c.split.result.count c.split.result.compared small whole c.split.ensures.0 c.split.ensures.1 in
    let slid = c.requires.slid in
    (two.0 ∙ slid-count a.w a.h a.words.now a.m slid, two.1 ∙ slid-compared a.w a.h a.words.now a.m slid)
