-- Headers with comments, by computing the definitions.
use mathlib.Core.Path.{refl}
use Rattle.text.specs.Digits.{is_digit, leading, decimal, number_of}
use Rattle.p6_whitespace.specs.Whitespace.{is_white, ends_line}
use Rattle.p6_whitespace.specs.Blanks.{comment_length, blank_length, blanks_length, whitespace_length}
use Rattle.p6_header.specs.P6Header.{is_magic, placed, field_of, after, ending, fields, header_of}
use Rattle.p6_header.specs.HeaderExamples.{HeaderExamples}

pub header-examples : HeaderExamples
unfolding is_digit leading decimal number_of is_white ends_line is_magic comment_length blank_length blanks_length whitespace_length placed field_of after ending fields header_of
header-examples = record { line = refl; alone = refl; after255 = refl; in_raster = refl; cut_off = refl; in_number = refl }
