-- The pairs' offsets stand in a list of their own, are small, and their sums are the answer.
use Prim.Native.Nat.{◌-◌}
use Rattle.rules.specs.Levels.{arranged}
use Rattle.next_pair.proofs.RunLaws.{pairs_small}
use Rattle.series_in_order.proofs.SeriesAnswerLaws.{answer-offsets, answer-counts, answer-compared}
use Rattle.series_in_order.proofs.aligning.align_series.Goals as goal

pub frame_offsets-requires-clause-small : goal.frame_offsets-requires-clause-small
frame_offsets-requires-clause-small c =
    let a = c.args in
    pairs_small a.order.now.places a.setup (a.n - 1) a.percentiles.now a.rasters.now _ c.align_pairs.new.pairs
    c.requires.accepted.shape.halvings c.align_pairs.ensures.offsets

pub returns : goal.returns
returns c =
    let a = c.args in
    let preferred = arranged a.order.now.places in
    let run = c.align_pairs.ensures in
    record {
      offsets = answer-offsets preferred a.setup a.n a.r a.percentiles.now a.rasters.now _ _ _ _ _ _ run a.offsets.now _
          c.requires.accepted.reference c.frame_offsets.ensures;
      counts = answer-counts preferred a.setup a.n a.r a.percentiles.now a.rasters.now _ _ _ _ _ _ run;
      compared = answer-compared preferred a.setup a.n a.r a.percentiles.now a.rasters.now _ _ _ _ _ _ run;
    }
