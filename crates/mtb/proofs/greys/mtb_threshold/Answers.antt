-- An accepted call's value is told; a refused one's number is, and the pointer's place is left.
use Rattle.std.proofs.Common.{◌∙◌}
use Rattle.c_answers.proofs.AnswerLaws.{answer-number, answer-value}
use Rattle.mtb.proofs.greys.mtb_threshold.Goals as goal

pub returns-clause-answer : goal.returns-clause-answer
returns-clause-answer c = c.value_into.ensures.number ∙ answer-number _ _ _ c.threshold.ensures

pub returns-clause-value : goal.returns-clause-value
returns-clause-value c = rw (c.value_into.ensures.number ∙ answer-number _ _ _ c.threshold.ensures) (c.value_into.ensures.value ∙ answer-value _ _ _ _ c.threshold.ensures)
