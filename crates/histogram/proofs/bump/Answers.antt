-- The table has a place for each byte.
use Rattle.std.proofs.Common.{arith}
use Rattle.histogram.proofs.CountLaws.{bumped}
use Rattle.histogram.proofs.bump.Goals as goal

pub returns : goal.returns
returns c = bumped c.args.table.now c.args.value (omega arith)
