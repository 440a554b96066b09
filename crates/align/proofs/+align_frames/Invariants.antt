-- The measure is the number of halvings left.
use Rattle.align.proofs.+align_frames.Given as goal

abbrev pub decreases-align_frames : goal.decreases-align_frames
decreases-align_frames l = l.setup.s
