use native.Mathlib.Omega.{arith}
use Prim.Native.Nat.{◌/◌}
use Rattle.text.proofs.DigitLaws.{digits-one, length_more, digits-at-most-ten}
use Rattle.text.proofs.+digit_count.Goals as goal

pub returns-then-n-lt10 : goal.returns-then-n-lt10
returns-then-n-lt10 t c = rw (digits-one c.args.n c.if-n-lt10.true)

pub overflow_add-result : goal.overflow_add-result
overflow_add-result t c = omega (arith, digits-at-most-ten (c.args.n / 10))

pub returns : goal.returns
returns t c = omega (arith, length_more c.args.n (omega arith) (omega arith))
