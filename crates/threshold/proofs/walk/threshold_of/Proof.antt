-- `threshold::walk::threshold_of` meets its contract: the goal is at most a hundred times the pixels, and the walk over the counts of a list gives its threshold.
use mathlib.Core.Path.{sym, ap, ◌∙◌}
use Prim.Native.Nat.{ℕ, ◌*◌, ◌≤◌}
use native.Mathlib.Nat.{mul-le-mul_right}
use native.Mathlib.Omega.{arith}
use Rattle.threshold.specs.Flat.{first_reaching}
use Rattle.threshold.proofs.FlatLaws.{walk_is}
use Rattle.threshold.proofs.walk.threshold_of.Statement.{statement}
use Rattle.threshold.proofs.walk.threshold_of.Tie as tie

-- the goal of a percentile of at most 99
goal-le : (c : tie.Start) → c.args.percentile * c.args.pixels ≤ 99 * c.args.pixels
goal-le c = mul-le-mul_right c.args.pixels c.requires.2

mul-goal : tie.Need-overflow_mul-goal
mul-goal c = omega (arith, goal-le c)

first-reaching-requires : tie.Need-first_reaching-requires
first-reaching-requires c κs = omega (arith, goal-le c)

returns : tie.Need-returns
returns c l k =
    let a = c.args in
    c.first_reaching.ensures
    ∙ ap (λ (n : ℕ). first_reaching (a.percentile * n) a.counts.now) (sym c.requires.0)
    ∙ walk_is a.percentile l a.counts.now k

pub threshold_of_spec : {M : Type 1} → statement M
threshold_of_spec = tie.close (tie.spec mul-goal first-reaching-requires returns)
