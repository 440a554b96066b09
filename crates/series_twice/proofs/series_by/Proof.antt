-- Each call by its own contract, once the kind is known.
use borrow.Author.Rules.{rules}
use Rattle.series_twice.proofs.series_by.Statement.{statement}
use Rattle.series_twice.proofs.series_by.Tie as tie

enum-known-kind : tie.Need-enum_known-kind
enum-known-kind c = search rules

series-in-requires : tie.Need-series_in-requires
series-in-requires c κs = search rules

enum-known-kind-2 : tie.Need-enum_known-kind-in-Band-1
enum-known-kind-2 c = search rules

series-band-requires : tie.Need-series_band-requires
series-band-requires c κs = search rules

same_length : tie.Need-shape_of-offsets-in-Tolerance
same_length c = search rules

same-length-2 : tie.Need-shape_of-counts-in-Tolerance
same-length-2 c = search rules

same-length-3 : tie.Need-shape_of-compared-in-Tolerance
same-length-3 c = search rules

same-length-4 : tie.Need-shape_of-grey-in-Tolerance
same-length-4 c = search rules

same-length-5 : tie.Need-shape_of-words-in-Tolerance
same-length-5 c = search rules

returns : tie.Need-returns-in-Tolerance
returns c =
    let r = c in
    let e = r.in-Tolerance.is in
    rw e r.series_in.ensures

same-length-6 : tie.Need-shape_of-offsets-in-Band
same-length-6 c = search rules

same-length-7 : tie.Need-shape_of-counts-in-Band
same-length-7 c = search rules

same-length-8 : tie.Need-shape_of-compared-in-Band
same-length-8 c = search rules

same-length-9 : tie.Need-shape_of-grey-in-Band
same-length-9 c = search rules

same-length-10 : tie.Need-shape_of-words-in-Band
same-length-10 c = search rules

returns-2 : tie.Need-returns-in-Band
returns-2 c =
    let r = c in
    let e = r.in-Band.is in
    rw e r.series_band.ensures

pub series_by_spec : {M : Type 1} → statement M
series_by_spec =
    tie.close
    (tie.spec
    enum-known-kind
    series-in-requires
    enum-known-kind-2
    series-band-requires
    same_length
    same-length-2
    same-length-3
    same-length-4
    same-length-5
    returns
    same-length-6
    same-length-7
    same-length-8
    same-length-9
    same-length-10
    returns-2)
