-- The offsets of the first k quadrants are written.
use mathlib.Core.Path.{◌≡◌}
use Rattle.rules.specs.Frames.{written_over}
use Rattle.rules.specs.Levels.{arranged}
use Rattle.rules.specs.Series.{offset_list}
use Rattle.four_quadrants.proofs.FourLaws.{offset_in}
use Rattle.four_quadrants.proofs.align_each.Given as goal

abbrev pub invariant-loop-k : goal.invariant-loop-k
invariant-loop-k l = l.offsets ≡ written_over (offset_list l.k (offset_in (arranged l.order.places) l.setup l.first l.second)) l.initial.offsets
