-- Frame k + 1's grey goes into the place that frame k's leaves free; each answer names what the three parts leave and cites a law over plain lists.
use mathlib.Core.Path.{refl}
use Prim.Native.Nat.{◌+◌, ◌*◌}
use lib.ListN.{length}
use borrow.Author.Rules.{part_to_end}
use Rattle.rules.specs.Levels.{arranged}
use Rattle.next_pair.proofs.RunLaws.{place-room, frames-at, ran}
use Rattle.next_pair.proofs.align_next.Goals as goal

pub convert-requires-clause-n_in_bounds_2 : goal.convert-requires-clause-n_in_bounds_2
convert-requires-clause-n_in_bounds_2 c =
    let S = c.args.setup in
    place-room S.w S.h S.s _ (length c.args.grey.now) c.place-second.result c.requires.room.greys c.place-second.ensures

pub align_frames-m-requires-clause-frames : goal.align_frames-m-requires-clause-frames
align_frames-m-requires-clause-frames c =
    rw c.convert.ensures.len
    (frames-at c.args.setup c.args.k _ _ _ _ _ _ _ _ c.place-first.result c.place-second.result c.requires.room c.place-first.ensures c.place-second.ensures)

pub returns : goal.returns
returns c =
    let a = c.args in
    ran (arranged a.order.now.places) a.setup a.k c.place-first.result c.place-second.result (a.k * (9 * (a.setup.s + 1)))
    a.rasters.now _ a.grey.now _ _ a.counts.now _ a.compared.now _ a.pairs.now _ c.align_frames-m.result
    c.place-first.ensures c.place-second.ensures refl (part_to_end a.rasters.now ((a.k + 1) * (3 * (a.setup.w * a.setup.h)))) c.requires.stands
    c.convert.ensures c.align_frames-m.ensures c.put_offset.ensures
