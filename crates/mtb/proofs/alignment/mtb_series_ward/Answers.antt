-- The offered call's own contract; its answer is told as a number.
use Rattle.c_answers.proofs.AnswerLaws.{written-again}
use Rattle.mtb.proofs.alignment.mtb_series_ward.Goals as goal

pub returns : goal.returns
returns c = rw (c.refusal_in.ensures, written-again) c.series_ward.ensures
