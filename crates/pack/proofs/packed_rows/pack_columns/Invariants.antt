-- The first k words of the row are written, and nothing else has changed.
use Rattle.rules.specs.Buffers.{RowAt}
use Rattle.pack.specs.Outside.{columns_word}
use Rattle.pack.proofs.packed_rows.pack_columns.Given as goal

abbrev pub invariant-loop-k : goal.invariant-loop-k
invariant-loop-k l = RowAt l.to (columns_word l.lo l.hi l.grey l.from l.w) l.initial.out l.k l.out
