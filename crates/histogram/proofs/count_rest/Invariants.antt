-- The table has grown by the pixels from `from` up to `i`, said without a difference.
use Rattle.std.proofs.Common.{◌≡◌, ℕ, ◌+◌, length, get_or}
use Rattle.histogram.specs.Counts.{count_to}
use Rattle.histogram.proofs.count_rest.Given as goal

abbrev pub invariant-loop-i : goal.invariant-loop-i
invariant-loop-i l = record {
  size : length l.table ≡ 256;
  grown : (v : ℕ) → get_or l.table v 0 + count_to l.grey l.from v ≡ get_or l.initial.table v 0 + count_to l.grey l.i v;
}
