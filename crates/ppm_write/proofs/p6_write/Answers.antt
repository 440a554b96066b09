-- An accepted call puts the header, and the raster after it.
use Rattle.std.proofs.Common.{sym, ap, arith}
use Rattle.std.specs.Prelude.{Ok}
use lib.ListN.{length}
use Rattle.text.proofs.PutLaws.{put-length, put_written}
use Rattle.ppm_write.specs.P6Writes.{header}
use Rattle.ppm_write.proofs.P6WriteLaws.{write-ok, Begun, begun_more}
use Rattle.ppm_write.proofs.p6_write.Goals as goal

pub overflow_cast-w : goal.overflow_cast-w
overflow_cast-w c = let a = c.args in let k = (write-ok a.w a.h (length a.raster.now) (length a.out.now) (sym c.in_ok-write_refusal.ensures)).size in omega arith

pub overflow_cast-h : goal.overflow_cast-h
overflow_cast-h c = let a = c.args in let k = (write-ok a.w a.h (length a.raster.now) (length a.out.now) (sym c.in_ok-write_refusal.ensures)).size in omega arith

pub put_header-start-requires : goal.put_header-start-requires
put_header-start-requires c = let a = c.args in let k = write-ok a.w a.h (length a.raster.now) (length a.out.now) (sym c.in_ok-write_refusal.ensures) in omega arith

pub put-requires : goal.put-requires
put-requires c =
    let a = c.args in
    let k = write-ok a.w a.h (length a.raster.now) (length a.out.now) (sym c.in_ok-write_refusal.ensures) in
    omega (arith, c.put_header-start.ensures.place, put-length _ _ _ _ c.put_header-start.ensures.output)

pub returns : goal.returns
returns c =
    let a = c.args in
    let begun : Begun (header a.w a.h) a.out.now c.put_header-start.new.out c.put_header-start.result =
    record { place = c.put_header-start.ensures.place; put = c.put_header-start.ensures.output } in
    let b = begun_more _ _ _ _ _ _ _ begun c.put.ensures.place c.put.ensures.output in
    rw (← c.in_ok-write_refusal.ensures) (record { answered = ap Ok b.place; filled = put_written _ _ _ b.put })
