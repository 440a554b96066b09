-- Laws of the output: the settings line decides, before any file.
use mathlib.Core.Path.{◌≡◌, ap, ◌∙◌}
use mathlib.Core.List.{List}
use Prim.Native.Nat.{ℕ, ◌≤◌}
use native.Mathlib.Omega.{arith}
use Rattle.std.proofs.Common.{Option, Some, None}
use lib.ListN.{length, drop, length-append}
use Rattle.settings_line.specs.declared.Settings.{Settings}
use Rattle.settings_line.specs.SettingsLine.{settings_of}
use Rattle.output_lines.specs.Lines.{settings_text}
use Rattle.files_text.specs.FilesText.{files_text, files_align}
use Rattle.report.specs.Output.{as_read, output_by, bracket_output, aligns_by, bracket_aligns, BracketCall}

module _ (input first second : List ℕ) where
  pub bad-line : settings_of input ≡ None → bracket_output input first second ≡ settings_text
  unfolding bracket_output output_by
  bad-line e = ap (λ (line : Option Settings). output_by line (as_read first) (as_read second)) e

  pub good-line : (line : Settings) → settings_of input ≡ Some line
      → bracket_output input first second ≡ files_text line.s line.tolerance line.percentile (as_read first) (as_read second)
  unfolding bracket_output output_by
  good-line line e = rw e

  pub good-aligns : (line : Settings) → settings_of input ≡ Some line
      → bracket_aligns input first second ≡ files_align line.s line.tolerance line.percentile (as_read first) (as_read second)
  unfolding bracket_aligns aligns_by
  good-aligns line e = rw e

  -- what a buffer holds is no longer than the buffer
  pub output-fits : (grey grey' words words' before after : List ℕ) (n : ℕ) → BracketCall input first second grey grey' words words' before after n → n ≤ length after
  output-fits grey grey' words words' before after n p =
      let text : List ℕ = bracket_output input first second in
      let a = ap length p.output_is ∙ length-append text (drop (length text) before) in
      let b = p.answered in
      omega arith
