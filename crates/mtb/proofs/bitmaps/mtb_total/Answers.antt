-- An accepted call's value is told; a refused one's number is, and the pointer's place is left.
use Rattle.std.proofs.Common.{◌∙◌}
use Rattle.c_answers.proofs.AnswerLaws.{answer-number, answer-value}
use Rattle.mtb.proofs.bitmaps.mtb_total.Goals as goal

pub returns-clause-answer : goal.returns-clause-answer
returns-clause-answer c = c.value_into.ensures.number ∙ answer-number _ _ _ c.total.ensures

pub returns-clause-count : goal.returns-clause-count
returns-clause-count c = rw (c.value_into.ensures.number ∙ answer-number _ _ _ c.total.ensures) (c.value_into.ensures.value ∙ answer-value _ _ _ _ c.total.ensures)
