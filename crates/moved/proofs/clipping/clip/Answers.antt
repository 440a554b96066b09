-- A move to the left skips the first places of the source, one to the right the first places of the result.
use Rattle.std.proofs.Common.{◌≡◌, ap, ◌∙◌, arith}
use mir.Facts.{to_z-of_z}
use Rattle.words.specs.Rows.{bias_of}
use Rattle.moved.proofs.SpanLaws.{clipped-left, clipped-right}
use Rattle.moved.proofs.clipping.clip.Goals as goal

pub returns-then-place-lt-BIAS : goal.returns-then-place-lt-BIAS
returns-then-place-lt-BIAS c =
    let a = c.args in
    let place : c.biased-place.result ≡ bias_of a.d = c.biased-place.ensures ∙ ap bias_of (to_z-of_z c.ranges.d) in
    clipped-left a.side a.d c.ranges.d c.min-skip.result (omega arith) (omega arith)

pub returns : goal.returns
returns c =
    let a = c.args in
    let place : c.biased-place.result ≡ bias_of a.d = c.biased-place.ensures ∙ ap bias_of (to_z-of_z c.ranges.d) in
    clipped-right a.side a.d c.ranges.d c.min-skip-2.result (omega arith) (omega arith)
