-- Candidate k is named by quotient and remainder of k by 3.
use mathlib.Core.Path.{sym, ◌∙◌}
use Prim.Native.Nat.{◌/◌, ◌%◌}
use Rattle.rules.proofs.LevelLaws.{candidate-is}
use Rattle.candidates.proofs.StepLaws.{coordinate-is}
use Rattle.candidates.proofs.candidate.Goals as goal

pub returns : goal.returns
returns c =
    let m = c.args.centre in
    let k = c.args.k in
    let x = coordinate-is m.dx c.step-i.result (k / 3) c.requires.near.dx c.step-i.ensures in
    let y = coordinate-is m.dy c.step-j.result (k % 3) c.requires.near.dy c.step-j.ensures in
    (λ i. record { dx = x i; dy = y i }) ∙ sym (candidate-is m k c.requires.k_bound)
