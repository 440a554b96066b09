-- An accepted call has the sizes that the core requires.
use Rattle.std.proofs.Common.{refl, sym, ◌/◌, arith}
use lib.ListN.{length}
use Rattle.rules.specs.Frames.{frame_of}
use Rattle.rules.specs.Greys.{halved}
use Rattle.rules.proofs.FrameLaws.{frame-written}
use Rattle.rules.proofs.RefusalLaws.{halve-ok}
use Rattle.halve.proofs.halve.Goals as goal

pub halve_frame-requires-clause-h_in_bounds : goal.halve_frame-requires-clause-h_in_bounds
halve_frame-requires-clause-h_in_bounds c = let a = c.args in let k = halve-ok a.w a.h (length a.grey.now) (length a.out.now) (sym c.in_ok-halve_refusal.ensures) in omega arith

pub halve_frame-requires-clause-h_in_bounds_2 : goal.halve_frame-requires-clause-h_in_bounds_2
halve_frame-requires-clause-h_in_bounds_2 c = let a = c.args in (halve-ok a.w a.h (length a.grey.now) (length a.out.now) (sym c.in_ok-halve_refusal.ensures)).room

pub returns : goal.returns
returns c =
    let a = c.args in
    let k = halve-ok a.w a.h (length a.grey.now) (length a.out.now) (sym c.in_ok-halve_refusal.ensures) in
    rw (← c.in_ok-halve_refusal.ensures) (record {
      answered = refl;
      filled = frame-written (a.w / 2) (a.h / 2) (halved (frame_of a.w a.grey.now)) a.out.now c.halve_frame.new.dst k.room c.halve_frame.ensures;
    })
