-- The pairs below k have run, and frame k's grey stands in its place.
use Rattle.rules.specs.Levels.{arranged}
use Rattle.next_pair.specs.PairRuns.{pairs_of, Run}
use Rattle.series_pairs.proofs.align_pairs.Given as goal

abbrev pub invariant-loop-k : goal.invariant-loop-k
invariant-loop-k l =
    Run l.setup l.n l.k l.rasters (pairs_of (arranged l.order.places) l.setup l.percentiles l.rasters)
    l.initial.pairs l.pairs l.initial.counts l.counts l.initial.compared l.compared l.grey
