-- The offered call's own contract; its answer is told as a number, and the number of frames behind the pointer.
use Rattle.std.proofs.Common.{◌∙◌}
use Rattle.c_answers.proofs.AnswerLaws.{answer-again, value-left}
use Rattle.mtb.proofs.live_bracket.mtb_live_offsets.Goals as goal

pub returns-clause-call : goal.returns-clause-call
returns-clause-call c = rw (c.value_into.ensures.number, c.value_into.ensures.value, answer-again) c.tell.ensures

pub returns-clause-refused : goal.returns-clause-refused
returns-clause-refused c = λ f. c.value_into.ensures.value ∙ value-left _ _ (λ z. f (c.value_into.ensures.number ∙ z))
