-- The blocks and the words left add up to a small tally.
use Rattle.std.proofs.Common.{arith}
use Rattle.popcount.proofs.RowLaws.{row-words-le}
use Rattle.tallies.proofs.TallyLaws.{tally-next-le}
use Rattle.differing.specs.RowDifferences.{moved_tally}
use Rattle.differing.proofs.DifferLaws.{moved_tally-le}
use Rattle.difference.proofs.interior.interior.Goals as goal

pub overflow_add-result : goal.overflow_add-result
overflow_add-result c =
    let a = c.args in
    omega (
      arith,
      a.m.moves.ends,
      a.m.moves.row,
      row-words-le a.m.w a.m.moves.width,
      tally-next-le (moved_tally a.pair.now a.base a.from a.m) a.m.first a.m.rest a.m.end c.interior_blocks.result c.interior_rest.result
          (moved_tally-le a.pair.now a.base a.from a.m) c.interior_blocks.ensures c.interior_rest.ensures,
    )
