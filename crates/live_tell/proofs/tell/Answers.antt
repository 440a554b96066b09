-- The series' own function tells the offsets from the part of the numbers that holds the pairs.
use Rattle.std.proofs.Common.{refl, sym, ap, ◌∙◌, arith}
use Rattle.std.proofs.lemmas.Result.{err_from_is_err_and}
use lib.ListN.{length}
use Rattle.rules.specs.Levels.{least_move_order}
use Rattle.rules.proofs.RefusalLaws.{number-nonzero}
use Rattle.live.specs.declared.Bracket.{Bracket}
use Rattle.live.specs.Held.{memory_of}
use Rattle.live.specs.Steps.{Call, number_of, frames_in, offsets_in}
use Rattle.live.proofs.StepLaws.{refused-tells, accepted-tells}
use Rattle.live_tell.proofs.ToldLaws.{told-ok, few, room, end-inside, pairs-room, pairs_small, told_none, told-some}
use Rattle.live_tell.proofs.tell.Goals as goal

pub returns-in_err-tell_refusal : goal.returns-in_err-tell_refusal
unfolding number_of
returns-in_err-tell_refusal c =
    let a = c.args in
    let e = c.in_err-tell_refusal in
    let p = err_from_is_err_and c.from_residual.result c.from_residual.ensures.1 in
    rw (p.1, p.2)
    (refused-tells least_move_order (memory_of a.held.now a.newest.now) (Call.Tell (length a.offsets.now)) _ e.ensures (number-nonzero e.field-0.0) a.offsets.now)

pub bracket_of-b-requires : goal.bracket_of-b-requires
bracket_of-b-requires c = let k = (told-ok _ _ _ (sym c.in_ok-tell_refusal.ensures)).exact1 in omega arith

pub returns-then-frames-eq0 : goal.returns-then-frames-eq0
unfolding number_of frames_in offsets_in
returns-then-frames-eq0 c =
    let a = c.args in
    accepted-tells least_move_order (memory_of a.held.now a.newest.now) (Call.Tell (length a.offsets.now)) 0 c.in_ok-tell_refusal.ensures refl
    0 a.offsets.now a.offsets.now (sym c.if-frames-eq0.true ∙ ap (λ (K : Bracket). K.frames) c.bracket_of-b.ensures)
    (told_none a.held.now _ _ (sym c.in_ok-tell_refusal.ensures) c.bracket_of-b.result c.bracket_of-b.ensures c.if-frames-eq0.true a.offsets.now)

pub overflow_mul-end : goal.overflow_mul-end
overflow_mul-end c = let f = few c.args.held.now _ _ (sym c.in_ok-tell_refusal.ensures) c.bracket_of-b.result c.bracket_of-b.ensures in omega arith

pub overflow_add-end : goal.overflow_add-end
overflow_add-end c = let f = few c.args.held.now _ _ (sym c.in_ok-tell_refusal.ensures) c.bracket_of-b.result c.bracket_of-b.ensures in omega arith

pub overflow_cast-told : goal.overflow_cast-told
overflow_cast-told c = let f = few c.args.held.now _ _ (sym c.in_ok-tell_refusal.ensures) c.bracket_of-b.result c.bracket_of-b.ensures in omega arith

pub slice_bounds-frame_offsets-end : goal.slice_bounds-frame_offsets-end
slice_bounds-frame_offsets-end c = end-inside c.args.held.now _ _ (sym c.in_ok-tell_refusal.ensures) c.bracket_of-b.result c.bracket_of-b.ensures

pub frame_offsets-requires-clause-frames : goal.frame_offsets-requires-clause-frames
frame_offsets-requires-clause-frames c = let f = few c.args.held.now _ _ (sym c.in_ok-tell_refusal.ensures) c.bracket_of-b.result c.bracket_of-b.ensures in (omega arith, f)

pub frame_offsets-requires-clause-pairs : goal.frame_offsets-requires-clause-pairs
frame_offsets-requires-clause-pairs c = pairs-room c.args.held.now _ _ (sym c.in_ok-tell_refusal.ensures) c.bracket_of-b.result c.bracket_of-b.ensures

pub frame_offsets-requires-clause-room : goal.frame_offsets-requires-clause-room
frame_offsets-requires-clause-room c = room c.args.held.now _ _ (sym c.in_ok-tell_refusal.ensures) c.bracket_of-b.result c.bracket_of-b.ensures

pub frame_offsets-requires-clause-small : goal.frame_offsets-requires-clause-small
frame_offsets-requires-clause-small c = pairs_small c.args.held.now _ _ (sym c.in_ok-tell_refusal.ensures) c.bracket_of-b.result c.bracket_of-b.ensures

pub returns : goal.returns
unfolding number_of frames_in offsets_in
returns c =
    let a = c.args in
    accepted-tells least_move_order (memory_of a.held.now a.newest.now) (Call.Tell (length a.offsets.now)) 0 c.in_ok-tell_refusal.ensures refl
    c.bracket_of-b.result.frames a.offsets.now c.frame_offsets.new.offsets (ap (λ (K : Bracket). K.frames) c.bracket_of-b.ensures)
    (told-some a.held.now _ _ (sym c.in_ok-tell_refusal.ensures) c.bracket_of-b.result c.bracket_of-b.ensures (omega arith) a.offsets.now c.frame_offsets.new.offsets c.frame_offsets.ensures)
