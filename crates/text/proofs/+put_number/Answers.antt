-- The last digit follows the digits of the tenth.
use mathlib.Core.Path.{refl, sym}
use mathlib.Core.List.{[], ◌∷◌}
use Prim.Native.Nat.{◌+◌, ◌/◌, ◌%◌, ◌<◌}
use lib.ListN.{length}
use native.Mathlib.Omega.{arith}
use Rattle.text.specs.Digits.{digits}
use Rattle.text.proofs.DigitLaws.{digits-one, digits_more, length_more, digits-none-empty}
use Rattle.text.proofs.PutLaws.{put-length, put_one, put_then}
use Rattle.text.proofs.+put_number.Goals as goal

pub bounds-out-at : goal.bounds-out-at
bounds-out-at t c = omega (arith, digits-none-empty c.args.n)

pub returns-then-n-lt10-clause-place : goal.returns-then-n-lt10-clause-place
returns-then-n-lt10-clause-place t c = rw (digits-one c.args.n c.if-n-lt10.true) refl

pub returns-then-n-lt10-clause-output : goal.returns-then-n-lt10-clause-output
returns-then-n-lt10-clause-output t c =
    let a = c.args in
    rw (digits-one a.n c.if-n-lt10.true) (put_one a.at (48 + a.n) a.out.now (omega (arith, digits-none-empty a.n)))

pub put_number-last-requires : goal.put_number-last-requires
put_number-last-requires t c = omega (arith, length_more c.args.n (omega arith) (omega arith))

pub bounds-out-last : goal.bounds-out-last
bounds-out-last t c =
    let p = c.put_number-last in
    omega (arith, length_more c.args.n (omega arith) (omega arith), put-length _ _ _ _ p.ensures.output)

pub returns-clause-place : goal.returns-clause-place
returns-clause-place t c = omega (arith, length_more c.args.n (omega arith) (omega arith))

pub returns-clause-output : goal.returns-clause-output
returns-clause-output t c =
    let a = c.args in
    let p = c.put_number-last in
    let n = length_more a.n (omega arith) (omega arith) in
    let room : p.result < length p.new.out = omega (arith, put-length _ _ _ _ p.ensures.output) in
    rw (digits_more a.n (omega arith) (omega arith))
    (put_then a.at (digits (a.n / 10)) ((48 + a.n % 10) ∷ []) a.out.now p.new.out _ p.ensures.output
    (rw (sym p.ensures.place) (put_one p.result (48 + a.n % 10) p.new.out room)))
