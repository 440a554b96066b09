-- The test is the definition's.
use borrow.Author.Rules.{rules}
use borrow.Author.Tests.{lt-leb, le-leb}
use Rattle.report.specs.Output.{as_read}
use Rattle.report.proofs.as_read.Statement.{statement}
use Rattle.report.proofs.as_read.Tie as tie

slice-aggregate-result : tie.Need-slice_bounds-result-end
slice-aggregate-result c = search rules

returns : tie.Need-returns-then-file-gt-MAX_FILE
unfolding as_read
returns c = rw (lt-leb _ 65536 c.if-file-gt-MAX_FILE.true)

returns-2 : tie.Need-returns
unfolding as_read
returns-2 c = rw (le-leb _ 65536 c.if-file-gt-MAX_FILE.false)

pub as_read_spec : {M : Type 1} → statement M
as_read_spec = tie.close (tie.spec slice-aggregate-result returns returns-2)
