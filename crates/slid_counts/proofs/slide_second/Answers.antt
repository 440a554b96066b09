-- The second slide leaves what the first wrote, and both leave the four bitmaps.
use Rattle.std.proofs.Common.{to_z, of_z}
use mir.Syntax.{w32}
use mir.Facts.{to_z-of_z}
use Rattle.slid_counts.proofs.SlidCountLaws.{slid-second}
use Rattle.slid_counts.proofs.slide_second.Goals as goal

pub returns : goal.returns
returns c =
    let a = c.args in
    let b = c.bitmap_words-n in
    let one = c.slide_within in
    let two = c.slide_within-2 in
    let both = slid-second a.w a.h b.result (to_z w32 (of_z w32 a.dx)) a.dx a.words.now one.new.words two.new.words b.ensures (to_z-of_z c.ranges.dx) one.ensures two.ensures in
    record { kept = both.0; slid = both.1 }
