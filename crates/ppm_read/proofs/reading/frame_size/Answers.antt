-- The header that was parsed decides.
use Rattle.ppm_read.specs.P6.{size_in}
use Rattle.p6_header.proofs.GrammarLaws.{by-grammar}
use Rattle.std.proofs.Common.{Some, None}
use Rattle.ppm_read.proofs.reading.frame_size.Goals as goal

pub returns-in_default : goal.returns-in_default
unfolding size_in
returns-in_default c = rw (by-grammar.only _ None c.in_default.ensures)

pub returns : goal.returns
unfolding size_in
returns c = rw (by-grammar.only _ (Some c.in-Some.header) c.in-Some.ensures)
