-- The conversions put both grey frames into the memory; the recursion's answer is that of the rasters.
use Prim.Native.Nat.{◌*◌}
use native.Mathlib.Nat.{le_refl}
use native.Mathlib.Omega.{arith}
use Rattle.rules.specs.Levels.{arranged}
use Rattle.rules.proofs.AlignmentLaws.{level-pixels-at}
use Rattle.align.proofs.WrittenLaws.{converted, converted-kept}
use Rattle.pair_in_order.proofs.PairCallLaws.{pair-offset, pair-counts, pair-compared}
use Rattle.pair_in_order.proofs.rasters.align_rasters.Goals as goal

pub convert-requires-clause-n_in_bounds_2 : goal.convert-requires-clause-n_in_bounds_2
convert-requires-clause-n_in_bounds_2 c =
    let S = c.args.setup in
    omega (arith, level-pixels-at S.s S.w S.h, c.requires.accepted.greys)

pub convert-requires-2-clause-n_in_bounds_2 : goal.convert-requires-2-clause-n_in_bounds_2
convert-requires-2-clause-n_in_bounds_2 c =
    let S = c.args.setup in
    omega (arith, level-pixels-at S.s S.w S.h, c.requires.accepted.greys, c.convert.ensures.len)

pub returns : goal.returns
returns c =
    let S = c.args.setup in
    let f = c.args.first.now in
    let s = c.args.second.now in
    let area = S.w * S.h in
    let p = converted-kept S.w S.h area _ f _ _ c.convert-2.new.grey c.convert.ensures (le_refl area) c.convert-2.ensures in
    let q = converted S.w S.h area s _ _ c.convert-2.ensures in
    let preferred = arranged c.args.order.now.places in
    let aligns = c.align_frames.ensures in
    record {
      offset = pair-offset preferred S f s _ _ _ _ _ _ _ p q aligns;
      counts = pair-counts preferred S f s _ _ _ _ _ _ _ p q aligns c.requires.accepted.room1;
      compared = pair-compared preferred S f s _ _ _ _ _ _ _ p q aligns c.requires.accepted.room2;
    }
