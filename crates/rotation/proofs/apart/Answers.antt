-- The size of the difference, of numbers that are their own bits.
use Rattle.std.proofs.Common.{ltb, ap, ◌∙◌}
use Rattle.rotation.specs.Turns.{apart}
use Rattle.rotation.proofs.TurnLaws.{apart-bits}
use Rattle.rotation.proofs.apart.Goals as goal

pub returns : goal.returns
unfolding apart
returns c = ap (ltb 1) c.abs_diff.ensures ∙ apart-bits c.args.a c.args.b c.requires.0 c.requires.1
