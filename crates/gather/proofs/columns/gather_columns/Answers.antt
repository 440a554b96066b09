-- Eight words of eight flags laid over each other are the flags by columns.
use Prim.Native.Nat.{◌+◌, ◌*◌}
use lib.ListN.{get_or}
use Rattle.gather.specs.Gathers.{Bytes}
use Rattle.gather.proofs.GatherJoinLaws.{eight}
use Rattle.gather.proofs.GatherLaws.{gathered}
use Rattle.gather.proofs.columns.gather_columns.Goals as goal

pub returns : goal.returns
returns c = λ f w.
    let flags = c.args.flags.now in
    gathered f flags _
    (eight (λ k v. Bytes 8 (λ j. get_or flags (8 * k + j) 0) v) _ _ _ _ _ _ _ _
    c.eight_flags.ensures c.eight_flags-2.ensures c.eight_flags-3.ensures c.eight_flags-4.ensures
    c.eight_flags-5.ensures c.eight_flags-6.ensures c.eight_flags-7.ensures c.eight_flags-8.ensures)
    w
