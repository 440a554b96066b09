-- The first words are turned, and nothing else has changed.
use Rattle.rules.specs.Buffers.{RowAt}
use Rattle.gather.specs.Gathers.{turned_at}
use Rattle.gather.proofs.turning.turn_row.Given as goal

abbrev pub invariant-loop-word : goal.invariant-loop-word
invariant-loop-word l = RowAt 0 (turned_at l.initial.word-items 0) l.initial.word-items l.word-index l.word-items
