-- The mask of n ones leaves the remainder by 2 ^ n; from n = 64 on the word is whole.
use Rattle.words.proofs.MoveLaws.{kept_low, kept-all}
use Rattle.words.proofs.keep_low.Goals as goal

pub returns-then-n-lt-WORD_BITS : goal.returns-then-n-lt-WORD_BITS
returns-then-n-lt-WORD_BITS c = kept_low c.args.v c.args.n c.if-n-lt-WORD_BITS.true

pub returns : goal.returns
returns c = kept-all c.args.v c.args.n c.ranges.v.fits c.if-n-lt-WORD_BITS.false
