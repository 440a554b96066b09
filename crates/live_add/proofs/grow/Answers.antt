-- The bracket that was read is within its limits and has room for a frame; the pair is put after the others.
use Rattle.std.proofs.Common.{List, false, subst, arith}
use Rattle.rules.specs.declared.Offset.{Offset}
use Rattle.live.specs.Steps.{setup_in}
use Rattle.rules.specs.Levels.{least_move_order}
use Rattle.newest_frame.specs.NewestFrames.{NewestAligned}
use Rattle.live.proofs.LimitLaws.{holding-ok}
use Rattle.live_add.proofs.GrowLaws.{limits-read, accepted-read, grown-first, grown-next}
use Rattle.live_add.proofs.grow.Goals as goal

pub bracket_of-bracket-requires : goal.bracket_of-bracket-requires
bracket_of-bracket-requires c = let k = c.requires.accepted.exact1 in omega arith

pub overflow_add-more : goal.overflow_add-more
overflow_add-more c =
    let limits = limits-read c.args.held.now c.bracket_of-bracket.result c.bracket_of-bracket.ensures c.requires.limits in
    let k = limits.frames in
    omega arith

pub replace_newest-requires-clause-raster_len : goal.replace_newest-requires-clause-raster_len
replace_newest-requires-clause-raster_len c =
    let accepted = accepted-read c.args.held.now c.bracket_of-bracket.result c.bracket_of-bracket.ensures false _ _ _ _ _ c.requires.accepted in
    (accepted.exact3, accepted.exact2)

pub replace_newest-requires-clause-h_bound : goal.replace_newest-requires-clause-h_bound
replace_newest-requires-clause-h_bound c =
    let limits = limits-read c.args.held.now c.bracket_of-bracket.result c.bracket_of-bracket.ensures c.requires.limits in
    limits.shape.size.area

pub put_bracket-requires-clause-held_len : goal.put_bracket-requires-clause-held_len
put_bracket-requires-clause-held_len c =
    let accepted = accepted-read c.args.held.now c.bracket_of-bracket.result c.bracket_of-bracket.ensures false _ _ _ _ _ c.requires.accepted in
    accepted.exact1

pub put_bracket-requires-clause-bracket_ok : goal.put_bracket-requires-clause-bracket_ok
put_bracket-requires-clause-bracket_ok c =
    let limits = limits-read c.args.held.now c.bracket_of-bracket.result c.bracket_of-bracket.ensures c.requires.limits in
    let accepted = accepted-read c.args.held.now c.bracket_of-bracket.result c.bracket_of-bracket.ensures false _ _ _ _ _ c.requires.accepted in
    let few = accepted.place limits.frames in
    holding-ok c.bracket_of-bracket.result _ (omega arith) limits

pub returns-then-frames-eq0 : goal.returns-then-frames-eq0
returns-then-frames-eq0 c =
    grown-first c.args.held.now c.bracket_of-bracket.result c.bracket_of-bracket.ensures least_move_order c.args.newest.now c.args.raster.now c.put_bracket.new.held c.replace_newest.new.newest
    c.if-frames-eq0.true c.put_bracket.ensures c.replace_newest.ensures

pub align_newest-m-requires : goal.align_newest-m-requires
align_newest-m-requires c =
    let limits = limits-read c.args.held.now c.bracket_of-bracket.result c.bracket_of-bracket.ensures c.requires.limits in
    let accepted = accepted-read c.args.held.now c.bracket_of-bracket.result c.bracket_of-bracket.ensures false _ _ _ _ _ c.requires.accepted in
    let p = limits.percentile in
    record {
      accepted = record {
        shape = limits.shape;
        percentiles = record { least = let l = p.least in omega arith; most = let l = p.most in omega arith };
        exact1 = accepted.exact2;
        exact2 = accepted.exact3;
        greys = accepted.greys;
        bitmaps = accepted.bitmaps;
      };
    }

pub put_pair-requires-clause-held_len : goal.put_pair-requires-clause-held_len
put_pair-requires-clause-held_len c =
    let accepted = accepted-read c.args.held.now c.bracket_of-bracket.result c.bracket_of-bracket.ensures false _ _ _ _ _ c.requires.accepted in
    accepted.exact1

pub put_pair-requires-clause-k_bound : goal.put_pair-requires-clause-k_bound
put_pair-requires-clause-k_bound c =
    let limits = limits-read c.args.held.now c.bracket_of-bracket.result c.bracket_of-bracket.ensures c.requires.limits in
    let accepted = accepted-read c.args.held.now c.bracket_of-bracket.result c.bracket_of-bracket.ensures false _ _ _ _ _ c.requires.accepted in
    let few = accepted.place limits.frames in
    omega arith

pub put_bracket-requires-2-clause-held_len : goal.put_bracket-requires-2-clause-held_len
put_bracket-requires-2-clause-held_len c =
    let accepted = accepted-read c.args.held.now c.bracket_of-bracket.result c.bracket_of-bracket.ensures false _ _ _ _ _ c.requires.accepted in
    let k = accepted.exact1 in
    let size = c.put_pair.ensures.len in
    omega arith

pub put_bracket-requires-2-clause-bracket_ok : goal.put_bracket-requires-2-clause-bracket_ok
put_bracket-requires-2-clause-bracket_ok c =
    let limits = limits-read c.args.held.now c.bracket_of-bracket.result c.bracket_of-bracket.ensures c.requires.limits in
    let accepted = accepted-read c.args.held.now c.bracket_of-bracket.result c.bracket_of-bracket.ensures false _ _ _ _ _ c.requires.accepted in
    let few = accepted.place limits.frames in
    holding-ok c.bracket_of-bracket.result _ (omega arith) limits

pub returns : goal.returns
returns c =
    let a = c.args in
    let B = c.bracket_of-bracket.result in
    let aligned = c.align_newest-m in
    grown-next a.held.now B c.bracket_of-bracket.ensures least_move_order a.newest.now a.raster.now c.put_bracket-2.new.held aligned.new.newest
    aligned.result c.put_pair.new.held c.put_pair.ensures
    (subst (λ (order : List Offset). NewestAligned order (setup_in B) a.newest.now aligned.new.newest a.raster.now aligned.result) c.places-order.ensures aligned.ensures)
    c.put_bracket-2.ensures
