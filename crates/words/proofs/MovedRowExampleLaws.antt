-- The worked rows, computed.
use mathlib.Core.Path.{refl}
use Rattle.rules.specs.Sums.{sum}
use Rattle.rules.specs.Bitmaps.{bit, word}
use Rattle.words.specs.Rows.{row_bit, back, bias_of}
use Rattle.words.specs.MovedRows.{joined_bit, moved_word}
use Rattle.words.specs.MovedRowExamples.{MovedRowExamples}

pub moved-row-examples : MovedRowExamples
unfolding moved_word joined_bit word sum row_bit back bit bias_of
moved-row-examples = record { right = (refl, refl); word = (refl, refl); left = (refl, refl); back = (refl, refl); lowest = (refl, (refl, refl)) }
