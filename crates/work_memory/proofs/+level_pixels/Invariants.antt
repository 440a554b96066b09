-- The halvings fall with each call.
use Rattle.work_memory.proofs.+level_pixels.Given as goal

abbrev pub decreases-level_pixels : goal.decreases-level_pixels
decreases-level_pixels l = l.s
