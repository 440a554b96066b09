-- What the program `bracket` prints, and what its call leaves: from its input and its two files.
use Rattle.std.specs.Prelude.{◌≡◌, Bool, false, cond, Option, Some, None, List, [], ℕ, leb, length}
use Rattle.rules.specs.Frames.{written_over}
use Rattle.settings_line.specs.declared.Settings.{Settings}
use Rattle.settings_line.specs.SettingsLine.{settings_of}
use Rattle.output_lines.specs.Lines.{settings_text}
use Rattle.files_text.specs.FilesText.{files_text, files_align}

-- "65536 bytes at most each; a missing or longer file counts as empty."
abbrev pub max_file : ℕ
max_file = 65536

unfoldable pub as_read : List ℕ → List ℕ
as_read file = cond (leb (length file) max_file) file []

-- `settings` "before any file is tested"
unfoldable pub output_by : Option Settings → List ℕ → List ℕ → List ℕ
output_by None first second = settings_text
output_by (Some line) first second = files_text line.s line.tolerance line.percentile first second

-- all that `bracket` prints, from its standard input and the bytes of its two files
unfoldable pub bracket_output : List ℕ → List ℕ → List ℕ → List ℕ
bracket_output input first second = output_by (settings_of input) (as_read first) (as_read second)

-- whether a pair is aligned, and the lent work memory so free: not for a bad line
unfoldable pub aligns_by : Option Settings → List ℕ → List ℕ → Bool
aligns_by None first second = false
aligns_by (Some line) first second = files_align line.s line.tolerance line.percentile first second

unfoldable pub bracket_aligns : List ℕ → List ℕ → List ℕ → Bool
bracket_aligns input first second = aligns_by (settings_of input) (as_read first) (as_read second)

-- what the call leaves: the number of bytes printed, those bytes at the beginning of its output and, where it refuses, its work memory as it was
pub record BracketCall (input first second grey grey' words words' out out' : List ℕ) (r : ℕ) : Type 0 where
  pub answered : r ≡ length (bracket_output input first second)
  pub output_is : out' ≡ written_over (bracket_output input first second) out
  pub memory_kept : bracket_aligns input first second ≡ false → (grey' ≡ grey) × (words' ≡ words)
