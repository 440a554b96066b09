-- The columns from `first` up to k are written, and nothing else has changed.
use Rattle.shift_words.specs.MovedParts.{moved_rows, Columns}
use Rattle.shift_words.proofs.move_columns.Given as goal

abbrev pub invariant-loop-k : goal.invariant-loop-k
invariant-loop-k l = Columns l.to l.m.n (moved_rows l.src l.from l.m) l.first l.k l.initial.dst l.h l.dst
