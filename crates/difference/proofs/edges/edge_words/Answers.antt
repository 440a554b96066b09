-- A row's tally is small.
use Rattle.std.proofs.Common.{◌+◌, arith}
use Rattle.popcount.proofs.RowLaws.{row-words-le}
use Rattle.tallies.proofs.TallyLaws.{tally-next-le}
use Rattle.differing.specs.RowDifferences.{moved_tally}
use Rattle.differing.proofs.DifferLaws.{moved_tally-le}
use Rattle.difference.proofs.edges.edge_words.Goals as goal

pub overflow_add-both : goal.overflow_add-both
overflow_add-both c =
    let a = c.args in
    let l = c.loop-k in
    omega (
      arith,
      row-words-le a.m.w a.m.moves.width,
      tally-next-le (moved_tally a.pair.now a.base a.from a.m) a.first l.k (l.k + 1) l.both c.edge_word-both.result
          (moved_tally-le a.pair.now a.base a.from a.m) l.invariant c.edge_word-both.ensures,
    )
