-- Each return is a law of the number at `at` and the byte after it.
use Rattle.std.proofs.Common.{drop, sym, ap, ◌∙◌, arith}
use Rattle.std.proofs.lemmas.List.{length-drop}
use borrow.Author.Rules.{part_to_end}
use Rattle.text.specs.Digits.{number_of}
use Rattle.text.proofs.ReadLaws.{read_ok}
use Rattle.settings_line.proofs.LineLaws.{space-none, space-missing}
use Rattle.settings_line.proofs.spaced_number.Goals as goal

pub returns-in_err-number : goal.returns-in_err-number
returns-in_err-number c =
    let a = c.args in
    c.from_residual.ensures ∙ sym (space-none a.line.now a.at (sym (c.in_err-number.ensures ∙ ap number_of (part_to_end a.line.now a.at))))

pub overflow_add-end : goal.overflow_add-end
overflow_add-end c =
    let a = c.args in
    let k = read_ok (drop a.at a.line.now) _ (sym (c.in_ok-number.ensures ∙ ap number_of (part_to_end a.line.now a.at))) in
    omega (arith, c.requires, length-drop a.at a.line.now)

pub returns-in_err-after : goal.returns-in_err-after
returns-in_err-after c =
    let a = c.args in
    c.from_residual-in_err-after.ensures
    ∙ sym (space-missing a.line.now a.at _ (sym (c.in_ok-number.ensures ∙ ap number_of (part_to_end a.line.now a.at))) (omega (arith, c.in_err-after.ensures)))
