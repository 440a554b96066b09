-- Each answer names the lists that the calls left and cites a law over plain lists.
use mathlib.Core.Path.{◌≡◌, refl, ◌∙◌}
use Prim.Native.Nat.{◌+◌, ◌*◌, ◌-◌, ◌<◌}
use native.Mathlib.Omega.{arith}
use lib.ListN.{length}
use borrow.Rule.Slice.PartMut.{same_len_mid}
use Rattle.rules.specs.Levels.{arranged}
use Rattle.align.proofs.AlignLaws.{coarser, returned, aligned-one, aligned-more, coarse-near, centre-near, part_length}
use Rattle.align.proofs.AlignLaws.{frames-room, frames-rest, frames-next, words-room}
use Rattle.align.proofs.+align_frames.Goals as goal

pub align_level-requires-clause-frames : goal.align_level-requires-clause-frames
align_level-requires-clause-frames t c =
    let a = c.args in
    let f = c.requires.frames in
    let k = frames-room a.first a.second a.setup (length a.grey.now) c.requires.frames in
    (let l = f.one in omega arith, let l = f.two in omega arith)

pub returns-then-s-eq0 : goal.returns-then-s-eq0
returns-then-s-eq0 t c =
    let a = c.args in
    let z = c.align_level in
    aligned-one (arranged a.order.now.places) a.setup a.first a.second a.at a.grey.now a.counts.now z.new.counts a.compared.now z.new.compared z.result
    c.if-s-eq0.true z.ensures

pub halve_within-requires-clause-h_in_bounds : goal.halve_within-requires-clause-h_in_bounds
halve_within-requires-clause-h_in_bounds t c =
    let a = c.args in
    let some : 0 < a.setup.s = omega arith in
    let k = frames-rest a.first a.second a.setup (length a.grey.now) c.requires.frames some in
    omega arith

pub halve_within-requires-2-clause-h_in_bounds : goal.halve_within-requires-2-clause-h_in_bounds
halve_within-requires-2-clause-h_in_bounds t c =
    let a = c.args in
    let some : 0 < a.setup.s = omega arith in
    let k = frames-rest a.first a.second a.setup (length a.grey.now) c.requires.frames some in
    let e = c.halve_within.ensures.len in
    omega arith

pub slice_bounds-align_frames-count : goal.slice_bounds-align_frames-count
slice_bounds-align_frames-count t c =
    let a = c.args in
    let k = frames-room a.first a.second a.setup (length a.grey.now) c.requires.frames in
    let e = c.halve_within.ensures.len in
    let d = c.halve_within-2.ensures.len in
    omega arith

pub slice_bounds-align_frames-start : goal.slice_bounds-align_frames-start
slice_bounds-align_frames-start t c =
    let a = c.args in
    let k = frames-room a.first a.second a.setup (length a.grey.now) c.requires.frames in
    let e = c.halve_within.ensures.len in
    let d = c.halve_within-2.ensures.len in
    omega arith

pub align_frames-coarse-requires : goal.align_frames-coarse-requires
align_frames-coarse-requires t c =
    let a = c.args in
    let some : 0 < a.setup.s = (let l = c.if-s-eq0.false in omega arith) in
    let e = c.halve_within.ensures.len in
    let d = c.halve_within-2.ensures.len in
    let size = part_length (2 * (a.setup.w * a.setup.h)) c.halve_within-2.new.grey (length a.grey.now) (d ∙ e) in
    let room = c.requires.levels in (
      omega (arith, c.decreases),
      (
        rw size (frames-next a.first a.second a.setup (length a.grey.now) c.requires.frames some),
        (
          words-room a.first a.second a.setup (length a.grey.now) c.requires.frames (length a.words.now) c.requires.room,
          (let l = room.0 in omega arith, let l = room.1 in omega arith),
        ),
      ),
    )

pub doubled-centre-requires : goal.doubled-centre-requires
doubled-centre-requires t c =
    let a = c.args in
    let f = c.requires.frames in
    let u = c.align_frames-coarse in
    coarse-near a.order.now.places (coarser a.setup) _ _ u.result (let l = f.halvings in omega arith) u.ensures.offset

pub align_level-aligned-requires-clause-frames : goal.align_level-aligned-requires-clause-frames
align_level-aligned-requires-clause-frames t c =
    let a = c.args in
    let f = c.requires.frames in
    let u = c.align_frames-coarse in
    let g = c.halve_within-2.new.grey in
    let e = c.halve_within.ensures.len in
    let d = c.halve_within-2.ensures.len in
    let size : length (returned a.setup g u.new.grey) ≡ length g =
    same_len_mid (2 * (a.setup.w * a.setup.h)) (length g - 2 * (a.setup.w * a.setup.h)) g u.new.grey u.auto.grey in
    let k = frames-room a.first a.second a.setup (length a.grey.now) c.requires.frames in
    (let l = f.one in omega arith, let l = f.two in omega arith)

pub align_level-aligned-requires-clause-near : goal.align_level-aligned-requires-clause-near
align_level-aligned-requires-clause-near t c =
    let a = c.args in
    let f = c.requires.frames in
    let u = c.align_frames-coarse in
    let near = coarse-near a.order.now.places (coarser a.setup) _ _ u.result (let l = f.halvings in omega arith) u.ensures.offset in
    centre-near u.result c.doubled-centre.result near c.doubled-centre.ensures

pub returns : goal.returns
returns t c =
    let a = c.args in
    let f = c.requires.frames in
    let h1 = c.halve_within in
    let h2 = c.halve_within-2 in
    let u = c.align_frames-coarse in
    let two = c.doubled-centre in
    let z = c.align_level-aligned in
    let k = frames-room a.first a.second a.setup (length a.grey.now) c.requires.frames in
    let e = h1.ensures.len in
    let d = h2.ensures.len in
    let some : 0 < a.setup.s = (let l = c.if-s-eq0.false in omega arith) in
    aligned-more (arranged a.order.now.places) a.setup a.first a.second a.grey.now h1.new.grey h2.new.grey some f.one f.two h1.ensures h2.ensures
    a.at u.new.grey a.counts.now u.new.counts z.new.counts
    a.compared.now u.new.compared z.new.compared (a.at + 9 * a.setup.s) u.result two.result z.result
    (omega arith) u.ensures two.ensures refl z.ensures
