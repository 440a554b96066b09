-- Each byte is joined above those before it.
use mathlib.Core.List.{[], ◌∷◌}
use Prim.Native.Nat.{◌<◌}
use lib.ListN.{get_or}
use native.Mathlib.Omega.{arith}
use Rattle.gather.proofs.GatherJoinLaws.{eight, joined}
use Rattle.gather.proofs.columns.join.Goals as goal

pub returns : goal.returns
returns c =
    let a = c.args in
    joined (λ k. get_or (a.a ∷ a.b ∷ a.c ∷ a.d ∷ a.e ∷ a.f ∷ a.g ∷ a.h ∷ []) k 0)
    (eight (λ k v. v < 256) a.a a.b a.c a.d a.e a.f a.g a.h
    c.ranges.a.fits c.ranges.b.fits c.ranges.c.fits c.ranges.d.fits c.ranges.e.fits c.ranges.f.fits c.ranges.g.fits c.ranges.h.fits)
    7
    (omega arith)
