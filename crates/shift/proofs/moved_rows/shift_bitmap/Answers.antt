-- The rows from biased moves are document 01's shift.
use Rattle.std.proofs.Common.{◌≡◌, ◌∙◌, ap, rules}
use mir.Facts.{to_z-of_z}
use Rattle.words.specs.Rows.{bias_of}
use Rattle.words.proofs.MoveLaws.{bias-lt}
use Rattle.shift.proofs.ShiftLaws.{shifted-written}
use Rattle.shift.proofs.moved_rows.shift_bitmap.Goals as goal

pub move_by-m-requires-clause-near : goal.move_by-m-requires-clause-near
move_by-m-requires-clause-near c = rw c.biased.ensures (bias-lt _ (search rules))

pub returns : goal.returns
returns c =
    let a = c.args in
    let m = c.move_by-m in
    let right : c.biased.result ≡ bias_of a.dx = c.biased.ensures ∙ ap bias_of (to_z-of_z c.ranges.dx) in
    let down : c.biased-2.result ≡ bias_of a.dy = c.biased-2.ensures ∙ ap bias_of (to_z-of_z c.ranges.dy) in
    shifted-written a.bitmap.now a.w a.h a.dx a.dy c.ranges.dx c.ranges.dy m.result m.ensures.0 (m.ensures.1 ∙ right) c.biased-2.result a.out.now
    c.place_rows.new.dst down c.requires.room c.place_rows.ensures
