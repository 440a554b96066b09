-- Each number is read as the definition reads it.
use Rattle.std.proofs.Common.{pos, get_or, rules}
use Rattle.live.specs.Held.{natural, bracket_of}
use Rattle.held_numbers.proofs.NumberLaws.{passed}
use Rattle.held_numbers.proofs.bracket_of.Goals as goal

pub returns : goal.returns
unfolding bracket_of
returns c =
    let l = c.args.held.now in
    λ i. record {
      w = passed natural (get_or l 0 (pos 0)) _ (search rules) c.natural-w.ensures i;
      h = passed natural (get_or l 1 (pos 0)) _ (search rules) c.natural-h.ensures i;
      s = passed natural (get_or l 2 (pos 0)) _ (search rules) c.natural-s.ensures i;
      tolerance = passed natural (get_or l 3 (pos 0)) _ (search rules) c.natural-tolerance.ensures i;
      percentile = passed natural (get_or l 4 (pos 0)) _ (search rules) c.natural-percentile.ensures i;
      frames = passed natural (get_or l 5 (pos 0)) _ (search rules) c.natural-frames.ensures i;
    }
