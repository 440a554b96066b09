-- The four tables together count the pixels before this turn's four.
use Rattle.std.proofs.Common.{◌*◌}
use Rattle.histogram.specs.Tables.{Tally}
use Rattle.histogram.proofs.count_fours.Given as goal

abbrev pub invariant-loop-turn : goal.invariant-loop-turn
invariant-loop-turn l = Tally l.grey (4 * l.turn) l.a l.b l.c l.d
