-- The first i flags are those of their pixels, and the others are 0.
use Rattle.std.proofs.Common.{◌≡◌, length}
use Rattle.flags.specs.Flags.{flag_at, Weighed}
use Rattle.flags.proofs.flags_of.Given as goal

abbrev pub invariant-loop-i : goal.invariant-loop-i
invariant-loop-i l = record { all : length l.flags ≡ 64; first : Weighed (flag_at l.lo l.hi l.grey l.at l.i) l.flags }
