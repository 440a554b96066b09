-- The header that was parsed decides.
use Rattle.std.proofs.Common.{◌≡◌, ℕ, Option, Some, None, MatchOption, rules}
use Rattle.p6_header.specs.declared.Header.{Header}
use Rattle.p6_header.specs.P6Header.{start_in}
use Rattle.p6_header.proofs.GrammarLaws.{by-grammar}
use Rattle.ppm_read.proofs.reading.raster_start.Goals as goal

-- what `map_or` answers
start_is : (r : Option Header) (n : ℕ) → MatchOption r (n ≡ 0) (λ header. n ≡ header.start) → n ≡ start_in r
unfolding start_in
start_is None n e = e
start_is (Some header) n e = e

pub returns : goal.returns
returns c = rw (by-grammar.only _ c.parse.result c.parse.ensures) (start_is c.parse.result c.map_or.result (search rules))
