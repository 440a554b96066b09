-- An accepted call has the sizes that the core requires, and the flat row is the frame.
use Rattle.std.proofs.Common.{refl, sym, arith}
use lib.ListN.{length}
use Rattle.rules.specs.Greys.{grey_frame}
use Rattle.rules.proofs.FrameLaws.{frame-written, flat-frame}
use Rattle.rules.proofs.RefusalLaws.{grey-ok}
use Rattle.grey.specs.GreyPlaces.{grey_at}
use Rattle.grey.proofs.to_grey.Goals as goal

pub overflow_mul-w : goal.overflow_mul-w
overflow_mul-w c = let a = c.args in omega (arith, (grey-ok a.w a.h (length a.raster.now) (length a.grey.now) (sym c.in_ok-grey_refusal.ensures)).size)

pub convert-requires-clause-n_in_bounds : goal.convert-requires-clause-n_in_bounds
convert-requires-clause-n_in_bounds c = let a = c.args in let k = grey-ok a.w a.h (length a.raster.now) (length a.grey.now) (sym c.in_ok-grey_refusal.ensures) in omega arith

pub convert-requires-clause-n_in_bounds_2 : goal.convert-requires-clause-n_in_bounds_2
convert-requires-clause-n_in_bounds_2 c = let a = c.args in let k = grey-ok a.w a.h (length a.raster.now) (length a.grey.now) (sym c.in_ok-grey_refusal.ensures) in omega arith

pub returns : goal.returns
unfolding grey_at grey_frame
returns c =
    let a = c.args in
    let k = grey-ok a.w a.h (length a.raster.now) (length a.grey.now) (sym c.in_ok-grey_refusal.ensures) in
    rw (← c.in_ok-grey_refusal.ensures) (record {
      answered = refl;
      filled = frame-written a.w a.h (grey_frame a.w a.raster.now) a.grey.now c.convert.new.grey k.room
          (flat-frame 0 a.w a.h (grey_at a.raster.now) a.grey.now c.convert.new.grey c.convert.ensures);
    })
