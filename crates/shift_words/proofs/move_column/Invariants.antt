-- The word of the first y rows is written, and nothing else has changed.
use Rattle.std.proofs.Common.{◌+◌}
use Rattle.shift_words.specs.MovedParts.{moved_rows, Columns}
use Rattle.shift_words.proofs.move_column.Given as goal

abbrev pub invariant-loop-y : goal.invariant-loop-y
invariant-loop-y l = Columns l.to l.m.n (moved_rows l.src l.from l.m) l.k (l.k + 1) l.initial.dst l.y l.dst
