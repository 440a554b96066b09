use Rattle.std.proofs.Common.{refl}
use Rattle.held_writes.proofs.WriteLaws.{zero_from}
use Rattle.held_writes.proofs.clear_from.Goals as goal

pub returns : goal.returns
returns c = zero_from c.args.from _ c.args.held.now _ c.requires refl (c.fill.ensures.after (λ y e. e))
