-- The offered call's own contract; its answer is told as a number, and its offset behind the pointers.
use Rattle.std.proofs.Common.{ap, ◌∙◌}
use Rattle.rules.specs.declared.Offset.{Offset}
use Rattle.c_answers.proofs.AnswerLaws.{answer-again, value-left}
use Rattle.mtb.proofs.alignment.mtb_pair.Goals as goal

pub returns-clause-call : goal.returns-clause-call
returns-clause-call c = rw (c.moved_into.ensures.number, c.moved_into.ensures.offset, answer-again) c.pair-answer.ensures

pub returns-clause-refused : goal.returns-clause-refused
returns-clause-refused c = λ f.
    let e = c.moved_into.ensures.offset ∙ value-left _ _ (λ z. f (c.moved_into.ensures.number ∙ z)) in
    (ap (λ (m : Offset). m.dx) e, ap (λ (m : Offset). m.dy) e)
