-- The three parts of the row's words add up to its pixels.
use Rattle.std.proofs.Common.{◌+◌, ◌*◌, ◌≡◌, arith}
use Rattle.rules.specs.Sums.{sum}
use Rattle.popcount.proofs.RowLaws.{adds-more, row-words-le}
use Rattle.tallies.proofs.TallyLaws.{tally-le, tally-adds-le}
use Rattle.differing.specs.RowDifferences.{moved_tally}
use Rattle.differing.proofs.DifferLaws.{moved_tally-le, row_tally-past, row-parts}
use Rattle.difference.proofs.row_differences.row_tally.Goals as goal

pub overflow_add-result : goal.overflow_add-result
overflow_add-result c =
    let a = c.args in
    let row = moved_tally a.pair.now a.base a.from a.m in
    omega (
      arith,
      a.m.moves.ends,
      a.m.moves.row,
      row-words-le a.m.w a.m.moves.width,
      tally-adds-le row 0 a.m.end (c.left_edge.result + c.interior.result) (moved_tally-le a.pair.now a.base a.from a.m)
          (adds-more row 0 a.m.first a.m.end c.left_edge.result c.interior.result c.left_edge.ensures c.interior.ensures),
    )

whole : (c : goal.After-right_edge)
    → let a = c.args in
    c.left_edge.result + c.interior.result + c.right_edge.result ≡ sum a.m.w (moved_tally a.pair.now a.base a.from a.m)
whole c =
    let a = c.args in
    let p = a.pair.now in
    row-parts (moved_tally p a.base a.from a.m) a.m.w a.m.n a.m.first a.m.end c.left_edge.result c.interior.result c.right_edge.result a.m.moves.row
    (row_tally-past p.threshold1.now p.exclusion1.now p.threshold2.now p.exclusion2.now a.base a.from a.m.w (a.m.q * 64 + a.m.r))
    c.left_edge.ensures c.interior.ensures c.right_edge.ensures

pub overflow_add-result-2 : goal.overflow_add-result-2
overflow_add-result-2 c =
    let a = c.args in
    omega (arith, a.m.moves.width, whole c, tally-le a.m.w (moved_tally a.pair.now a.base a.from a.m) (moved_tally-le a.pair.now a.base a.from a.m))

pub returns : goal.returns
returns c = whole c
