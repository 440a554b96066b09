-- Each row adds its own tally, and the rows make up the frame.
use Rattle.std.proofs.Common.{◌≡◌, ◌+◌, ◌*◌, ◌≤◌, ℕ, sym, ap, ◌∙◌, arith}
use mir.Facts.{to_z-of_z}
use Rattle.rules.proofs.SumLaws.{sum-none, sum-le}
use Rattle.words.specs.Rows.{bias_of}
use Rattle.words.proofs.MoveLaws.{bias-lt}
use Rattle.popcount.proofs.RowLaws.{rows_more}
use Rattle.differing.specs.RowDifferences.{pair_line}
use Rattle.differing.proofs.DifferLaws.{line-le, frame-whole}
use Rattle.difference.proofs.row_differences.tally_frame.Goals as goal

pub move_by-m-requires-clause-near : goal.move_by-m-requires-clause-near
move_by-m-requires-clause-near c = rw (c.biased.ensures ∙ ap bias_of (to_z-of_z c.ranges.dx)) (bias-lt c.args.dx c.ranges.dx)

pub loop-y-init : goal.loop-y-init
loop-y-init c =
    let a = c.args in
    let m = c.move_by-m.result in
    sym (sum-none (pair_line a.pair.now m.w a.h (m.q * 64 + m.r) c.biased-up.result))

pub overflow_add-both : goal.overflow_add-both
overflow_add-both c =
    let a = c.args in
    let p = a.pair.now in
    let m = c.move_by-m.result in
    let d = m.q * 64 + m.r in
    let up = c.biased-up.result in
    let l = c.loop-y in
    let small : (y : ℕ) → pair_line p m.w a.h d up y ≤ 4096 * 4294967297 =
    λ y. line-le p.threshold1.now p.exclusion1.now p.threshold2.now p.exclusion2.now m.w a.h d up y m.moves.width in
    omega (arith, c.requires.height, l.invariant, sum-le l.y (4096 * 4294967297) (pair_line p m.w a.h d up) (λ y k. small y), small l.y)

pub loop-y-preserved : goal.loop-y-preserved
loop-y-preserved c =
    let a = c.args in
    let m = c.move_by-m.result in
    let l = c.loop-y in
    rows_more (pair_line a.pair.now m.w a.h (m.q * 64 + m.r) c.biased-up.result) l.y l.both c.line_tally-both.result l.invariant c.line_tally-both.ensures

pub returns : goal.returns
returns c =
    let a = c.args in
    let p = a.pair.now in
    let m = c.move_by-m in
    let u = c.biased-up in
    let l = c.loop-y in
    let e : l.y ≡ a.h = omega arith in
    frame-whole a.w a.h a.dx a.dy p.threshold1.now p.exclusion1.now p.threshold2.now p.exclusion2.now c.ranges.dx c.ranges.dy
    m.result.w (m.result.q * 64 + m.result.r) u.result l.both m.ensures.0
    (m.ensures.1 ∙ c.biased.ensures ∙ ap bias_of (to_z-of_z c.ranges.dx))
    (u.ensures ∙ ap bias_of (to_z-of_z c.ranges.dy)) (rw e at l.invariant)
