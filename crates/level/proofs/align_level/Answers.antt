-- The second frame's bitmaps are written after the first's and leave them, so the numbers over the words are the frames'.
use mathlib.Core.Path.{◌≡◌, ap}
use Prim.Native.Nat.{ℕ, ◌*◌}
use lib.ListN.{drop}
use Rattle.rules.specs.Bitmaps.{row_words}
use Rattle.level.proofs.ChoiceLaws.{words-count, words-compared, level-aligned}
use Rattle.level.proofs.align_level.Goals as goal

pub returns : goal.returns
returns c =
    let a = c.args in
    let one = c.bitmaps_within in
    let two = c.bitmaps_within-2 in
    let size = c.bitmap_words-n in
    let nine = c.nine_counts in
    let place : 2 * size.result ≡ 2 * (row_words a.setup.w * a.setup.h) = ap (λ (n : ℕ). 2 * n) size.ensures in
    let f = drop a.first a.grey.now in
    let g = drop a.second a.grey.now in
    level-aligned _ _ _ _ a.centre a.order.now.places a.at _ _ _ _ c.first_least-rank.result c.candidate.result a.order.now.each_once
    (words-count a.setup f g a.words.now one.new.words two.new.words (2 * size.result) place one.ensures two.ensures)
    (words-compared a.setup f g a.words.now one.new.words two.new.words (2 * size.result) place one.ensures two.ensures)
    nine.ensures.counts nine.ensures.compared c.first_least-rank.ensures c.candidate.ensures
