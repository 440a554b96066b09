-- The tests are the definition's.
use borrow.Author.Rules.{rules}
use borrow.Author.Tests.{eq-eqb, ne_eqb}
use Rattle.files_text.specs.PairTexts.{raster_of_size}
use Rattle.files_text.proofs.raster_of_size.Statement.{statement}
use Rattle.files_text.proofs.raster_of_size.Tie as tie

slice-aggregate-result : tie.Need-slice_bounds-result-end
slice-aggregate-result c = search rules

returns : tie.Need-returns-then-first-second
unfolding raster_of_size
returns c = rw (ne_eqb _ _ c.if-first-second.true)

slice-aggregate-result-2 : tie.Need-slice_bounds-result-end-then-first-second-2
slice-aggregate-result-2 c = search rules

returns-2 : tie.Need-returns-then-first-second-2
unfolding raster_of_size
returns-2 c = rw (eq-eqb _ _ c.if-first-second.false, ne_eqb _ _ c.if-first-second-2.true)

p6-raster-requires : tie.Need-p6_raster-requires
p6-raster-requires c κs = search rules

returns-3 : tie.Need-returns
unfolding raster_of_size
returns-3 c = rw (eq-eqb _ _ c.if-first-second.false, eq-eqb _ _ c.if-first-second-2.false) c.p6_raster.ensures.holds

pub raster_of_size_spec : {M : Type 1} → statement M
raster_of_size_spec =
    tie.close
    (tie.spec
    slice-aggregate-result
    returns
    slice-aggregate-result-2
    returns-2
    p6-raster-requires
    returns-3)
