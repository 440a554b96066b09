-- The whitespace is what was passed and what begins from here on.
use Rattle.std.proofs.Common.{◌≡◌, ◌+◌, ◌-◌, ◌≤◌, length, drop}
use Rattle.p6_whitespace.specs.Blanks.{whitespace_length}
use Rattle.p6_whitespace.proofs.whitespace_length.Given as goal

abbrev pub invariant-loop-n : goal.invariant-loop-n
invariant-loop-n l = record {
  in_bytes : l.n ≤ length l.bytes;
  split : whitespace_length l.bytes ≡ l.n + whitespace_length (drop l.n l.bytes);
}

abbrev pub decreases-loop-n : goal.decreases-loop-n
decreases-loop-n l = length l.bytes - l.n
