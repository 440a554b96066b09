-- Both axes, each by its own test.
use Rattle.std.proofs.Common.{◌||◌, ap₂, ◌∙◌}
use Rattle.rotation.specs.Turns.{differing}
use Rattle.rotation.proofs.TurnLaws.{apart-bits}
use Rattle.rotation.proofs.differing.Goals as goal

pub returns : goal.returns
unfolding differing
returns c =
    let a = c.args.a in
    let b = c.args.b in
    ap₂ ◌||◌
    (c.apart.ensures ∙ apart-bits a.dx b.dx c.requires.0.dx c.requires.1.dx)
    (c.apart-2.ensures ∙ apart-bits a.dy b.dy c.requires.0.dy c.requires.1.dy)
