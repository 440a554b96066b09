-- The bits of two words, moved.
use Rattle.words.proofs.JoinLaws.{joined_is}
use Rattle.words.proofs.moves.joined_word.Goals as goal

pub returns : goal.returns
returns c = joined_is c.args.high c.args.low c.args.r c.ranges.low.fits c.requires
