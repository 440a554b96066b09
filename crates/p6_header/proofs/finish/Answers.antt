-- Past the end of the file there is no whitespace.
use Rattle.std.proofs.Common.{arith}
use borrow.Author.Tests.{eq-eqb}
use Rattle.p6_header.specs.P6Header.{ending}
use Rattle.p6_whitespace.proofs.BlankLaws.{white-past}
use Rattle.p6_header.proofs.finish.Goals as goal

pub returns-in_err-last : goal.returns-in_err-last
unfolding ending
returns-in_err-last c =
    let a = c.args in
    simp (eq-eqb a.largest 255 (omega arith), white-past a.file.now a.at (omega (arith, c.in_err-last.ensures))) c.from_residual.ensures
