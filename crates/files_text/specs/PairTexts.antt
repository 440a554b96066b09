-- The text for a pair of rasters, as `bracket` hands them to the pair call; and what a function leaves that prints it.
use Rattle.std.specs.Prelude.{◌≡◌, Bool, false, ◌&&◌, cond, List, [], ℕ, eqb, length}
use Rattle.rules.specs.Refusals.{tolerance_refusal, pair_refusal}
use Rattle.ppm_read.specs.declared.Size.{Size}
use Rattle.ppm_read.specs.P6.{raster_of}
use Rattle.output_lines.specs.Lines.{aligned_text}
use Rattle.output_lines.specs.Writes.{Wrote}
use Rattle.files_text.specs.FilesText.{counts_lent, grey_lent, words_lent, answer_text, ward_result}

-- the pair call's refusal number, and whether it aligns
abbrev pub lent_refusal : Size → ℕ → ℕ → ℕ → List ℕ → List ℕ → ℕ
lent_refusal size s tolerance percentile first second =
    pair_refusal size.w size.h s (tolerance_refusal tolerance) percentile (length first) (length second) counts_lent counts_lent grey_lent words_lent

abbrev pub pair_aligns : Size → ℕ → ℕ → ℕ → List ℕ → List ℕ → Bool
pair_aligns size s tolerance percentile first second = eqb (lent_refusal size s tolerance percentile first second) 0

unfoldable pub pair_text : Size → ℕ → ℕ → ℕ → List ℕ → List ℕ → List ℕ
pair_text size s tolerance percentile first second =
    answer_text (lent_refusal size s tolerance percentile first second) (aligned_text s (ward_result size s tolerance percentile first second))

-- the second file's raster, if its frame has the first one's size
unfoldable pub raster_of_size : Size → Size → List ℕ → List ℕ
raster_of_size first second file = cond (eqb first.w second.w && eqb first.h second.h) (raster_of file) []

-- what a function leaves that prints for two frames: a text at the beginning of the output and, where no pair was aligned, its work memory as it was
pub record Printed (aligned : Bool) (text grey grey' words words' out : List ℕ) (r : ℕ) (out' : List ℕ) : Type 0 where
  pub wrote : Wrote 0 text out r out'
  pub memory_kept : aligned ≡ false → (grey' ≡ grey) × (words' ≡ words)
