-- The second smallest by the smaller and the larger byte of each column.
use Rattle.rules.proofs.GreyLaws.{second-columns}
use Rattle.half_block.proofs.second_smallest.Goals as goal

pub returns : goal.returns
returns c = let a = c.args in cc (second-columns a.a a.b a.c a.d)
