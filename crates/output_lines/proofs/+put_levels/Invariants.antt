-- The measure is the number of halvings.
use Rattle.output_lines.proofs.+put_levels.Given as goal

abbrev pub decreases-put_levels : goal.decreases-put_levels
decreases-put_levels l = l.s
