-- Each pair runs in the lengths of the call, which no pair changes.
use mathlib.Core.Path.{◌∙◌}
use Prim.Native.Nat.{◌+◌, ◌<◌}
use lib.ListN.{length}
use native.Mathlib.Omega.{arith}
use Rattle.rules.specs.Levels.{arranged}
use Rattle.rules.proofs.AlignmentLaws.{level-pixels-at}
use Rattle.next_pair.proofs.RunLaws.{pair-sizes, room_at, room-kept, run_none, first-stands-at, run_more, run-all}
use Rattle.series_pairs.proofs.align_pairs.Goals as goal

pub convert-requires-clause-n_in_bounds_2 : goal.convert-requires-clause-n_in_bounds_2
convert-requires-clause-n_in_bounds_2 c =
    let S = c.args.setup in
    omega (arith, level-pixels-at S.s S.w S.h, c.requires.accepted.greys)

pub loop-k-init : goal.loop-k-init
loop-k-init c =
    let a = c.args in
    run_none a.setup a.n a.rasters.now _ a.pairs.now a.counts.now a.compared.now c.convert.new.grey
    (pair-sizes (arranged a.order.now.places) a.setup a.percentiles.now a.rasters.now)
    (first-stands-at a.setup a.rasters.now a.grey.now c.convert.new.grey c.convert.ensures)

pub align_next-requires-clause-room : goal.align_next-requires-clause-room
align_next-requires-clause-room c =
    let l = c.loop-k in
    room_at c.args.setup c.args.n c.args.percentiles.now _ _ _ _ _ _ l.k
    (room-kept _ _ _ _ _ _ _ _ _ (length l.pairs) (length l.counts) (length l.compared) (length l.grey) (length l.words)
    l.auto.pairs l.auto.counts l.auto.compared (l.auto.grey ∙ c.convert.ensures.len) l.auto.words c.requires.accepted)
    (omega arith)

pub loop-k-preserved : goal.loop-k-preserved
loop-k-preserved c =
    let a = c.args in
    let l = c.loop-k in
    let t : l.k + 1 < a.n = omega arith in
    run_more a.setup a.percentiles.now a.n l.k a.rasters.now _ a.pairs.now l.pairs _ a.counts.now l.counts _ a.compared.now l.compared _ l.grey _
    (pair-sizes (arranged a.order.now.places) a.setup a.percentiles.now a.rasters.now) t c.requires.accepted.room1 l.invariant c.align_next.ensures

pub returns : goal.returns
returns c =
    let a = c.args in
    let o = c.requires.accepted in
    let l = c.loop-k in
    run-all a.setup a.n l.k a.rasters.now _ a.pairs.now l.pairs a.counts.now l.counts a.compared.now l.compared l.grey
    (pair-sizes (arranged a.order.now.places) a.setup a.percentiles.now a.rasters.now)
    (let some = o.frames.0 in omega arith) o.room2 o.room3 l.invariant
