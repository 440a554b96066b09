-- The rows are moved from the memory's first part into the second.
use Rattle.std.proofs.Common.{◌≡◌, ap, ◌∙◌, rules}
use mir.Facts.{to_z-of_z}
use Rattle.rules.specs.Bitmaps.{row_words}
use Rattle.words.specs.Rows.{bias_of}
use Rattle.words.proofs.MoveLaws.{bias-lt}
use Rattle.slide.proofs.SlideLaws.{frame-slid}
use Rattle.slide.proofs.slide_within.Goals as goal

pub move_by-m-requires-clause-near : goal.move_by-m-requires-clause-near
move_by-m-requires-clause-near c = rw c.biased.ensures (bias-lt _ (search rules))

pub returns : goal.returns
returns c =
    let a = c.args in
    let parts = c.split_at_mut-bitmap in
    let m = c.move_by-m.result in
    let move = c.move_by-m.ensures in
    let right : c.biased.result ≡ bias_of a.dx = c.biased.ensures ∙ ap bias_of (to_z-of_z c.ranges.dx) in
    let e : m.n ≡ row_words a.w = m.moves.row ∙ ap row_words move.0 in
    rw e at
    (frame-slid a.words.now parts.result.0.now parts.result.1.now c.move_rows.new.dst a.from m a.w a.h a.to a.dx c.ranges.dx move.0 (move.1 ∙ right)
    (rw e c.requires.apart) parts.ensures.value parts.ensures.front_len c.move_rows.ensures)
