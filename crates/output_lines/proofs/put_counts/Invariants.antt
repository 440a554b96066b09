-- The counts passed stand from place `at` on.
use Rattle.std.proofs.Common.{take}
use Rattle.output_lines.specs.Lines.{counts_text}
use Rattle.output_lines.specs.Writes.{Wrote}
use Rattle.output_lines.proofs.put_counts.Given as goal

abbrev pub invariant-loop-count : goal.invariant-loop-count
invariant-loop-count l = Wrote l.at (counts_text (take l.count-index l.counts)) l.fn.out l.next l.out
