-- `threshold::walk::first_reaching` meets its contract. The loop's invariant: `count` is the sum of the counts below `v`, and no value below `v` reaches the goal.
-- The last value reaches it by the requires, so `v` stays a byte.
use mathlib.Core.Path.{◌≡◌, sym}
use mathlib.Core.Bool.{false}
use Prim.Native.Nat.{ℕ, ◌+◌, ◌*◌, ◌-◌, ◌≤◌, ◌<◌}
use lib.Dec.{leb}
use lib.ListN.{get_or}
use borrow.Author.Count.{below_more}
use borrow.Author.Tests.{le-leb, lt-leb}
use Rattle.rules.specs.Sums.{sum}
use Rattle.rules.proofs.SumLaws.{sum-none}
use Rattle.rules.proofs.ThresholdLaws.{least-is}
use Rattle.histogram.specs.Counts.{max_pixels}
use Rattle.threshold.specs.Flat.{first_reaching}
use Rattle.threshold.proofs.WalkLaws.{running_more, not_last}
use native.Mathlib.Omega.{arith}
use borrow.Author.Rules.{rules}
use Rattle.threshold.proofs.walk.first_reaching.Statement.{statement}
use Rattle.threshold.proofs.walk.first_reaching.Tie as tie

abbrev invariant-loop : tie.invariant-loop-count
invariant-loop counts goal count₀ v₀ count v =
    (v ≤ 255) × (count ≡ sum v (λ k. get_or counts k 0)) × ((u : ℕ) → u < v → leb goal (100 * sum (u + 1) (λ k. get_or counts k 0)) ≡ false)

abbrev decreases-loop : tie.decreases-loop-count
decreases-loop counts goal count₀ v₀ count v = 255 - v

loop-holds : tie.Need-loop-count-init invariant-loop decreases-loop
loop-holds c = (omega arith, sym (sum-none _), λ u l. absurd (omega arith))

-- the running count with the count of v
next : (c : tie.At-loop-count invariant-loop decreases-loop)
    → (c.loop-count.count + get_or c.args.counts.now c.loop-count.v 0 ≡ sum (c.loop-count.v + 1) (λ k. get_or c.args.counts.now k 0))
    × (c.loop-count.count + get_or c.args.counts.now c.loop-count.v 0 ≤ max_pixels)
next c =
    rw c.loop-count.invariant.1
    (running_more (λ k. get_or c.args.counts.now k 0) c.loop-count.v c.loop-count.invariant.0 c.requires.0)

cast-k : tie.Need-overflow_cast-k invariant-loop decreases-loop
cast-k c = search rules

mul-count : tie.Need-offset_bounds-counts-k invariant-loop decreases-loop
mul-count c = search rules

element-copy-out-count : tie.Need-bounds-counts-k invariant-loop decreases-loop
element-copy-out-count c = search rules

cast-count : tie.Need-overflow_cast-count invariant-loop decreases-loop
cast-count c = omega (arith, next c.before.before)

add-count : tie.Need-overflow_add-count invariant-loop decreases-loop
add-count c = omega (arith, next c.before.before)

mul-if1 : tie.Need-overflow_mul-count invariant-loop decreases-loop
mul-if1 c = omega (arith, next c.before.before)

-- a value that falls short is not the last
more : (c : tie.Else-count-goal invariant-loop decreases-loop) → c.loop-count.v < 255
more c =
    let L = c.loop-count in
    let n = next c.before.before.before in
    not_last _ L.v _ L.invariant.0 c.requires.1 (omega (arith, n.0))

add-v : tie.Need-overflow_add-v invariant-loop decreases-loop
add-v c = omega (arith, more c)

loop-less : tie.Need-loop-count-smaller invariant-loop decreases-loop
loop-less c = omega (arith, more c)

loop-again : tie.Need-loop-count-preserved invariant-loop decreases-loop
loop-again c =
    let L = c.loop-count in
    let a = c.args in
    let n = next c.before.before.before in (
      omega (arith, more c),
      n.0,
      below_more _ _ L.invariant.2 (lt-leb a.goal (100 * sum (L.v + 1) (λ k. get_or a.counts.now k 0)) (omega (arith, n.0))),
    )

returns : tie.Need-returns invariant-loop decreases-loop
unfolding first_reaching
returns c =
    let L = c.loop-count in
    let a = c.args in
    let n = next c.before.before.before in
    least-is 255 L.v _ L.invariant.0 L.invariant.2
    (λ l. le-leb a.goal (100 * sum (L.v + 1) (λ k. get_or a.counts.now k 0)) (omega (arith, n.0)))

pub first_reaching_spec : {M : Type 1} → statement M
first_reaching_spec =
    tie.close
    (tie.spec
    invariant-loop
    decreases-loop
    loop-holds
    cast-k
    mul-count
    element-copy-out-count
    cast-count
    add-count
    mul-if1
    add-v
    loop-less
    loop-again
    returns)
