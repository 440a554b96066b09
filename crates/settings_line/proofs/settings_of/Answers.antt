-- The line is the input's part of the length found.
use mathlib.Core.Path.{sym, ap, ◌∙◌}
use mathlib.Core.Bool.{not}
use Prim.Native.Nat.{ℕ}
use native.Mathlib.Omega.{arith}
use lib.Dec.{eqb}
use lib.ListN.{take}
use lib.Seq.{length-take-le}
use Rattle.text.proofs.ReadLaws.{leading-in}
use Rattle.settings_line.specs.SettingsLine.{line_of, numbers_of, settings_of}
use Rattle.settings_line.proofs.settings_of.Goals as goal

pub slice_bounds-numbers_of-end : goal.slice_bounds-numbers_of-end
slice_bounds-numbers_of-end c =
    let n = c.line_length-n in
    let input = c.args.input.now in
    sym (length-take-le n.result input (omega (arith, n.ensures, leading-in (λ b. not (eqb b 10)) input)))

pub returns : goal.returns
unfolding settings_of line_of
returns c =
    c.numbers_of.ensures
    ∙ ap (λ (n : ℕ). numbers_of (take n c.args.input.now)) c.line_length-n.ensures
