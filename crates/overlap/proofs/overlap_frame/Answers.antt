-- The rows that have a partner are one run of words; if none has, nothing is compared.
use Rattle.std.proofs.Common.{◌-◌, ap, ◌∙◌, arith}
use mir.Facts.{to_z-of_z}
use Rattle.words.specs.Rows.{bias, bias_of}
use Rattle.overlap.proofs.OverlapLaws.{overlap-none, overlap-whole, frame-words}
use Rattle.overlap.proofs.overlap_frame.Goals as goal

pub returns-then-h-top : goal.returns-then-h-top
returns-then-h-top c =
    let a = c.args in
    let up = c.biased-up.result in
    overlap-none a.w a.h a.dy a.pair.now up (c.max-most.result - bias) (c.max-most.result - up) c.ranges.dy
    (c.biased-up.ensures ∙ ap bias_of (to_z-of_z c.ranges.dy)) (omega arith) (omega arith) c.if-h-top.true

pub run_tally-requires : goal.run_tally-requires
run_tally-requires c =
    let a = c.args in
    let up = c.biased-up.result in
    let words = frame-words a.w a.h c.row_words-n.result (c.max-most.result - bias) (c.max-most.result - up) c.row_words-n.ensures c.requires.width c.requires.height c.if-h-top.false in
    record {
      runs = record {
        threshold1 = omega (arith, c.requires.frames.threshold1);
        exclusion1 = omega (arith, c.requires.frames.exclusion1);
        threshold2 = omega (arith, c.requires.frames.threshold2);
        exclusion2 = omega (arith, c.requires.frames.exclusion2);
        short = omega arith;
      };
    }

pub returns : goal.returns
returns c =
    let a = c.args in
    let up = c.biased-up.result in
    let n = c.row_words-n in
    overlap-whole a.w a.h a.dy a.pair.now up (c.max-most.result - bias) (c.max-most.result - up) c.ranges.dy
    (c.biased-up.ensures ∙ ap bias_of (to_z-of_z c.ranges.dy)) (omega arith) (omega arith)
    c.requires.clean c.if-h-top.false n.result c.run_tally.result n.ensures c.run_tally.ensures
