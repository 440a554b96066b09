-- Each return is a law of the numbers read so far.
use Rattle.std.proofs.Common.{◌+◌, ◌≤◌, length, drop, sym, ap, ◌∙◌, arith}
use Rattle.std.proofs.lemmas.List.{length-drop}
use borrow.Author.Rules.{part_to_end}
use Rattle.text.specs.Digits.{number_of}
use Rattle.text.proofs.ReadLaws.{read_ok}
use Rattle.settings_line.proofs.LineLaws.{spaced-in, first-none, second_none, third-none, third-other, all_read}
use Rattle.settings_line.proofs.numbers_of.Goals as goal

pub returns-in_err-s : goal.returns-in_err-s
returns-in_err-s c = c.from_residual.ensures ∙ sym (first-none _ (sym c.in_err-s.ensures))

pub spaced_number-requires-2 : goal.spaced_number-requires-2
spaced_number-requires-2 c = omega (arith, spaced-in c.args.line.now 0 _ (sym c.in_ok-s.ensures))

pub returns-in_err-tolerance : goal.returns-in_err-tolerance
returns-in_err-tolerance c =
    c.from_residual-in_err-tolerance.ensures ∙ sym (second_none _ _ (sym c.in_ok-s.ensures) (sym c.in_err-tolerance.ensures))

-- the third one begins within the line
pub overflow_add-at : goal.overflow_add-at
overflow_add-at c = omega (arith, spaced-in c.args.line.now _ _ (sym c.in_ok-tolerance.ensures))

pub slice_bounds-read_number-count : goal.slice_bounds-read_number-count
slice_bounds-read_number-count c = spaced-in c.args.line.now _ _ (sym c.in_ok-tolerance.ensures)

pub slice_bounds-read_number-start : goal.slice_bounds-read_number-start
slice_bounds-read_number-start c = spaced-in c.args.line.now _ _ (sym c.in_ok-tolerance.ensures)

pub returns-in_err-percentile : goal.returns-in_err-percentile
returns-in_err-percentile c =
    let at = c.in_ok-s.s.count + c.in_ok-tolerance.tolerance.count in
    c.from_residual-in_err-percentile.ensures
    ∙ sym (third-none _ _ _ (sym c.in_ok-s.ensures) (sym c.in_ok-tolerance.ensures) (sym (c.in_err-percentile.ensures ∙ ap number_of (part_to_end c.args.line.now at))))

pub overflow_add-at-2 : goal.overflow_add-at-2
overflow_add-at-2 c =
    let at = c.in_ok-s.s.count + c.in_ok-tolerance.tolerance.count in
    let within : at ≤ length c.args.line.now = spaced-in c.args.line.now _ _ (sym c.in_ok-tolerance.ensures) in
    let k = read_ok (drop at c.args.line.now) _ (sym (c.in_ok-percentile.ensures ∙ ap number_of (part_to_end c.args.line.now at))) in
    omega (arith, length-drop at c.args.line.now)

pub returns-then-at-percentile : goal.returns-then-at-percentile
returns-then-at-percentile c =
    let at = c.in_ok-s.s.count + c.in_ok-tolerance.tolerance.count in
    sym (third-other _ _ _ (sym c.in_ok-s.ensures) (sym c.in_ok-tolerance.ensures) _ (sym (c.in_ok-percentile.ensures ∙ ap number_of (part_to_end c.args.line.now at))) c.if-at-percentile.true)

pub returns : goal.returns
returns c =
    let at = c.in_ok-s.s.count + c.in_ok-tolerance.tolerance.count in
    sym (all_read _ _ _ (sym c.in_ok-s.ensures) (sym c.in_ok-tolerance.ensures) _ (sym (c.in_ok-percentile.ensures ∙ ap number_of (part_to_end c.args.line.now at))) c.if-at-percentile.false)
