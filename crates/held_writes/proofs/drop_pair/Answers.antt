use Rattle.std.proofs.Common.{pos, arith}
use Rattle.held_writes.proofs.WriteLaws.{moved-pairs}
use Rattle.held_writes.proofs.drop_pair.Goals as goal

pub returns : goal.returns
returns c =
    let e = c.copy_within.ensures in
    moved-pairs c.args.n _ _ e.len (λ j k l. e.by_index.0 j (pos 0) k (omega arith))
