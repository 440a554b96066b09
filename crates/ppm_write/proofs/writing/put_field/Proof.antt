-- The whitespace follows the digits.
use lib.ListN.{length-append}
use Rattle.text.specs.Digits.{digits}
use Rattle.text.proofs.PutLaws.{put-length, put_then}
use native.Mathlib.Omega.{arith}
use borrow.Author.Rules.{rules}
use Rattle.ppm_write.proofs.writing.put_field.Statement.{statement}
use Rattle.ppm_write.proofs.writing.put_field.Tie as tie

put-number-requires : tie.Need-put_number-next-requires
put-number-requires c κs =
    let a = c.args in
    omega (arith, length-append (digits a.n) a.white.now)

put-requires : tie.Need-put-requires
put-requires c κs =
    let n = c in
    let a = n.args in
    omega (arith, length-append (digits a.n) a.white.now, put-length _ _ _ _ n.put_number-next.ensures.1)

same_length : tie.Need-shape_of-out
same_length c = search rules

returns : tie.Need-returns
returns c =
    let last = c in
    let n = last in
    let a = n.args in (
      omega (arith, length-append (digits a.n) a.white.now),
      put_then a.at (digits a.n) a.white.now a.out.now n.put_number-next.new.out last.put.new.out
          n.put_number-next.ensures.1 (rw n.put_number-next.ensures.0 at last.put.ensures.1),
    )

pub put_field_spec : {M : Type 1} → statement M
put_field_spec = tie.close (tie.spec put-number-requires put-requires same_length returns)
