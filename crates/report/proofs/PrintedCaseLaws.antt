-- The printed case: line, headers, refusals and digits by computing the definitions, the alignment as the examples of `rules` have it.
use mathlib.Core.Path.{◌≡◌, refl, ap, ◌∙◌}
use mathlib.Core.List.{List}
use Prim.Native.Nat.{ℕ}
use Rattle.rules.specs.Bitmaps.{row_words}
use Rattle.rules.specs.Refusals.{bad_side, bad_size, bad_halvings, too_small, bad_tolerance, bad_percentile, level_pixels, pair_refusal}
use Rattle.rules.specs.Examples.{first_rows, second_rows, printed_result, aligned}
use Rattle.rules.proofs.ExampleLaws.{printed}
use Rattle.text.specs.Digits.{is_digit, leading, decimal, number_of, last_digits, digits}
use Rattle.p6_whitespace.specs.Whitespace.{is_white, ends_line}
use Rattle.p6_whitespace.specs.Blanks.{comment_length, blank_length, blanks_length, whitespace_length}
use Rattle.p6_header.specs.P6Header.{is_magic, placed, field_of, after, ending, fields, header_of, start_in}
use Rattle.ppm_read.specs.P6.{header_refusal, p6_refusal, size_in}
use Rattle.settings_line.specs.SettingsLine.{line_of, spaced, last, numbers_of, settings_of}
use Rattle.output_lines.specs.Lines.{signed, counts_text, levels_text, aligned_text}
use Rattle.files_text.specs.FilesText.{second_raster, bracket_refusal, answer_text, files_text}
use Rattle.report.specs.Output.{as_read, output_by, bracket_output}
use Rattle.report.specs.PrintedCase.{printed_line, first_file, second_file, printed_bytes, commented_of, PrintedCase}

as-digits : aligned_text 0 aligned ≡ printed_bytes
unfolding last_digits digits signed counts_text levels_text
as-digits = refl

-- any two files that the definitions take for the two frames of the case
printed-by : (first second : List ℕ) → bracket_output printed_line first second ≡ aligned_text 0 (printed_result (first_rows 10 20 90) (second_rows 10 20 90))
    → bracket_output printed_line first second ≡ printed_bytes
printed-by first second e = e ∙ ap (aligned_text 0) printed ∙ as-digits

pub printed-case : PrintedCase
unfolding row_words bad_side bad_size bad_halvings too_small bad_tolerance bad_percentile level_pixels pair_refusal is_digit leading decimal number_of
    is_magic is_white ends_line comment_length blank_length blanks_length whitespace_length placed field_of after ending fields header_of start_in header_refusal p6_refusal
    size_in line_of spaced last numbers_of settings_of second_raster bracket_refusal answer_text files_text as_read output_by bracket_output
printed-case = record {
  plain = printed-by first_file second_file refl;
  commented = printed-by (commented_of (first_rows 10 20 90)) (commented_of (second_rows 10 20 90)) refl;
}
