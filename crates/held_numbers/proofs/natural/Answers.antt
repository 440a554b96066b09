-- A number below 0 does not convert.
use Rattle.std.proofs.Common.{◌∙◌}
use mir.Facts.{to_z-of_z}
use Rattle.held_numbers.proofs.NumberLaws.{natural_is}
use Rattle.held_numbers.proofs.natural.Goals as goal

pub returns : goal.returns
returns c = c.unwrap_or.ensures ∙ natural_is c.args.x c.try_from.result c.ranges.x.sfits (rw (to_z-of_z c.ranges.x) at c.try_from.ensures)
