-- An accepted call has the sizes and the spans that the rows require.
use Rattle.std.proofs.Common.{refl, sym, subst}
use lib.IntN.{ℤ}
use lib.ListN.{length}
use mir.Facts.{to_z-of_z}
use Rattle.moved.specs.Spans.{Clipped}
use Rattle.moved.proofs.SpanLaws.{moved-written, moved_ok}
use Rattle.moved.proofs.moved.Goals as goal

pub place_rows-requires-clause-sized : goal.place_rows-requires-clause-sized
place_rows-requires-clause-sized c =
    let a = c.args in
    moved_ok a.w a.h (length a.raster.now) (length a.out.now) (sym c.in_ok-moved_refusal.ensures)

pub returns : goal.returns
returns c =
    let a = c.args in
    let columns = subst (λ (d : ℤ). Clipped a.w d c.clip.result) (to_z-of_z c.ranges.dx) c.clip.ensures in
    let lines = subst (λ (d : ℤ). Clipped a.h d c.clip-2.result) (to_z-of_z c.ranges.dy) c.clip-2.ensures in
    let sized = moved_ok a.w a.h (length a.raster.now) (length a.out.now) (sym c.in_ok-moved_refusal.ensures) in
    rw (← c.in_ok-moved_refusal.ensures) (record {
      answered = refl;
      filled = moved-written a.w a.h a.dx a.dy a.raster.now a.out.now c.place_rows.new.out _ _ columns lines sized.room c.place_rows.ensures;
    })
