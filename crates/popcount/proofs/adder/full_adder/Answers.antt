-- Place by place a sum of three bits is its low digit and its carry.
use Rattle.popcount.proofs.AdderLaws.{adder-sums}
use Rattle.popcount.proofs.adder.full_adder.Goals as goal

pub returns : goal.returns
returns c = adder-sums c.args.a c.args.b c.args.c
