-- The text that `bracket` prints for two files: the number that refuses them, or their alignment.
use Rattle.std.specs.Prelude.{Bool, ◌&&◌, cond, List, [], ℕ, zero, suc, eqb, length}
use Rattle.rules.specs.Levels.{ward_order, Aligned}
use Rattle.rules.specs.Refusals.{◌or_else◌, counts_length, tolerance_refusal, pair_refusal}
use Rattle.rules.specs.Limits.{max_halvings}
use Rattle.rules.specs.Calls.{tolerance_setup, pair_result}
use Rattle.ppm_read.specs.declared.Size.{Size}
use Rattle.p6_header.specs.P6Header.{header_of}
use Rattle.ppm_read.specs.P6.{size_in, p6_refusal, raster_of}
use Rattle.output_lines.specs.Lines.{refused_text, aligned_text}

-- "It lends 65536 grey bytes and 8192 words."
abbrev pub grey_lent : ℕ
grey_lent = 65536

abbrev pub words_lent : ℕ
words_lent = 8192

-- and counts for the most levels that there can be, and as many compared numbers
abbrev pub counts_lent : ℕ
counts_lent = counts_length max_halvings

-- The second raster as the pair call gets it: "a second frame of another size counts as 9", an input of the wrong length, at its place
-- among the pair's numbers. So such a frame is handed over as no bytes at all.
unfoldable pub second_raster : List ℕ → List ℕ → List ℕ
second_raster first second =
    cond (eqb (size_in (header_of first)).w (size_in (header_of second)).w && eqb (size_in (header_of first)).h (size_in (header_of second)).h)
    (raster_of second) []

-- "the first file's, else the second's, else the pair's"
unfoldable pub bracket_refusal : ℕ → ℕ → ℕ → List ℕ → List ℕ → ℕ
bracket_refusal s tolerance percentile first second =
    p6_refusal first
    or_else p6_refusal second
    or_else pair_refusal (size_in (header_of first)).w (size_in (header_of first)).h s (tolerance_refusal tolerance) percentile
    (length (raster_of first)) (length (second_raster first second)) counts_lent counts_lent grey_lent words_lent

-- the text for a refusal number, or where there is none
unfoldable pub answer_text : ℕ → List ℕ → List ℕ
answer_text zero text = text
answer_text (suc n) text = refused_text (suc n)

-- "`bracket` uses that one": the result of the pair call that keeps Ward's order (document 02, Paper 1)
abbrev pub ward_result : Size → ℕ → ℕ → ℕ → List ℕ → List ℕ → Aligned
ward_result size s tolerance percentile first second = pair_result ward_order (tolerance_setup size.w size.h s tolerance percentile) first second

unfoldable pub files_text : ℕ → ℕ → ℕ → List ℕ → List ℕ → List ℕ
files_text s tolerance percentile first second =
    answer_text (bracket_refusal s tolerance percentile first second) (aligned_text s
    (ward_result (size_in (header_of first)) s tolerance percentile (raster_of first) (raster_of second)))

-- whether the pair is aligned: only then is the lent work memory free
abbrev pub files_align : ℕ → ℕ → ℕ → List ℕ → List ℕ → Bool
files_align s tolerance percentile first second = eqb (bracket_refusal s tolerance percentile first second) 0
