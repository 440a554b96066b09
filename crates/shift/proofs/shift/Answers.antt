-- An accepted call has the sizes that the core requires; it writes the core's result at the moves as they were passed.
use Rattle.std.proofs.Common.{refl, sym, ◌∙◌}
use lib.ListN.{length}
use mir.Facts.{to_z-of_z}
use Rattle.rules.specs.Frames.{written_over}
use Rattle.rules.specs.Planes.{shifted}
use Rattle.rules.specs.Bitmaps.{bit_at, packed}
use Rattle.rules.proofs.RefusalLaws.{shift-ok}
use Rattle.shift.proofs.shift.Goals as goal

pub shift_bitmap-requires : goal.shift_bitmap-requires
shift_bitmap-requires c = shift-ok _ _ _ _ (sym c.in_ok-shift_refusal.ensures)

pub returns : goal.returns
returns c =
    let a = c.args in
    rw (← c.in_ok-shift_refusal.ensures) (record {
      answered = refl;
      filled = c.shift_bitmap.ensures
          ∙ (λ i. written_over (packed a.w a.h (shifted a.w a.h (to_z-of_z c.ranges.dx i) (to_z-of_z c.ranges.dy i) (bit_at a.w a.h a.bitmap.now))) a.out.now);
    })
