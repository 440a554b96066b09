-- The pixels of all levels are at most twice those of the first, so the sum fits.
use mathlib.Core.Path.{sym}
use Prim.Native.Nat.{◌-◌, ◌/◌}
use native.Mathlib.Nat.{mul-le-mul}
use native.Mathlib.Omega.{arith}
use Rattle.rules.specs.Refusals.{level_pixels}
use Rattle.rules.proofs.AlignmentLaws.{level-pixels-step, level-pixels-fit}
use Rattle.work_memory.proofs.+level_pixels.Goals as goal

pub overflow_mul-result : goal.overflow_mul-result
overflow_mul-result t c = omega (arith, mul-le-mul c.requires.0 c.requires.1)

pub overflow_mul-result-2 : goal.overflow_mul-result-2
overflow_mul-result-2 t c = omega (arith, mul-le-mul c.requires.0 c.requires.1)

pub overflow_add-result : goal.overflow_add-result
overflow_add-result t c =
    let a = c.args in
    let e = c.level_pixels.ensures in
    omega (
      arith,
      mul-le-mul c.requires.0 c.requires.1,
      level-pixels-fit (a.s - 1) (a.w / 2) (a.h / 2) (omega arith) (omega arith),
    )

pub returns : goal.returns
returns t c =
    let a = c.args in
    rw c.level_pixels.ensures (sym (level-pixels-step a.s a.w a.h (omega arith)))

pub returns-then-s-eq0 : goal.returns-then-s-eq0
unfolding level_pixels
returns-then-s-eq0 t c = rw c.if-s-eq0.true
