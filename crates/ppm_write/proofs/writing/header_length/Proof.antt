-- A number has ten digits at most.
use Prim.Native.Nat.{◌+◌, ◌≤◌}
use Rattle.text.proofs.DigitLaws.{digits-at-most-ten}
use Rattle.ppm_write.proofs.P6WriteLaws.{length-header}
use native.Mathlib.Omega.{arith}
use borrow.Author.Rules.{rules}
use Rattle.ppm_write.proofs.writing.header_length.Statement.{statement}
use Rattle.ppm_write.proofs.writing.header_length.Tie as tie

few : (c : tie.After-digit_count-3) → c.digit_count.result + c.digit_count-2.result + c.digit_count-3.result ≤ 30
few c =
    let a = c.args in
    omega (arith, digits-at-most-ten a.w, digits-at-most-ten a.h, digits-at-most-ten 255)

digit-count-requires : tie.Need-digit_count-requires
digit-count-requires c κs = search rules

add-result : tie.Need-overflow_add-result
add-result c = omega (arith, digits-at-most-ten c.args.w)

digit-count-requires-2 : tie.Need-digit_count-requires-2
digit-count-requires-2 c κs = search rules

add-result-2 : tie.Need-overflow_add-result-2
add-result-2 c =
    let a = c.args in
    omega (arith, digits-at-most-ten a.w, digits-at-most-ten a.h)

digit-count-requires-3 : tie.Need-digit_count-requires-3
digit-count-requires-3 c κs = search rules

add-result-3 : tie.Need-overflow_add-result-3
add-result-3 c = omega (arith, few c)

add-result-4 : tie.Need-overflow_add-result-4
add-result-4 c = omega (arith, few c)

returns : tie.Need-returns
returns c =
    let a = c.args in
    omega (arith, length-header a.w a.h)

pub header_length_spec : {M : Type 1} → statement M
header_length_spec =
    tie.close
    (tie.spec
    digit-count-requires
    add-result
    digit-count-requires-2
    add-result-2
    digit-count-requires-3
    add-result-3
    add-result-4
    returns)
