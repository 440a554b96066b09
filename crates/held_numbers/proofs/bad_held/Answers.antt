-- Where the bracket keeps its limits its pairs decide.
use Rattle.std.proofs.Common.{◌≡◌, ℕ, ◌-◌, suc, false, sym, ap, ◌∙◌, arith}
use lib.Pow.{pow_pos}
use Rattle.live.specs.Held.{held_pair}
use Rattle.live.specs.Steps.{some_far, bad_bracket}
use Rattle.live.proofs.LimitLaws.{bracket-ok}
use Rattle.held_numbers.proofs.BadLaws.{bound-is, held_first, held-pairs}
use Rattle.held_numbers.proofs.bad_held.Goals as goal

pub returns-then-bad_bracket : goal.returns-then-bad_bracket
returns-then-bad_bracket c = held_first c.args.held.now c.bracket_of-b.result c.bracket_of-b.ensures (sym c.bad_bracket.ensures ∙ c.if-bad_bracket.true)

pub overflow_shl-bound : goal.overflow_shl-bound
overflow_shl-bound c =
    let limits = bracket-ok c.bracket_of-b.result (sym c.bad_bracket.ensures ∙ c.if-bad_bracket.false) in
    let k = limits.shape.halvings in
    omega arith

pub overflow_sub-bound : goal.overflow_sub-bound
overflow_sub-bound c =
    let B = c.bracket_of-b.result in
    let limits = bracket-ok B (sym c.bad_bracket.ensures ∙ c.if-bad_bracket.false) in
    rw (bound-is B.s limits.shape.halvings) (pow_pos (suc B.s))

pub some_far-requires : goal.some_far-requires
some_far-requires c =
    let limits = bracket-ok c.bracket_of-b.result (sym c.bad_bracket.ensures ∙ c.if-bad_bracket.false) in
    let k = limits.frames in
    record { n_bound = (omega arith, omega arith) }

pub returns : goal.returns
returns c =
    let B = c.bracket_of-b.result in
    let held = c.args.held.now in
    let fine : bad_bracket B ≡ false = sym c.bad_bracket.ensures ∙ c.if-bad_bracket.false in
    let bound = bound-is B.s (bracket-ok B fine).shape.halvings in
    held-pairs held B c.bracket_of-b.ensures fine c.some_far.result
    (c.some_far.ensures ∙ ap (λ (n : ℕ). some_far (n - 1) (held_pair held) c.pairs_in.result) bound ∙ rw c.pairs_in.ensures)
