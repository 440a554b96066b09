-- Each turn's byte is a digit; fewer than nine of them spell less than a tenth of what nine do.
use Rattle.std.proofs.Common.{refl, arith, sym}
use Rattle.std.proofs.lemmas.List.{length-take-le}
use Rattle.text.specs.Digits.{is_digit, decimal}
use Rattle.text.proofs.ReadLaws.{leading-in, turn}
use Rattle.text.proofs.value_of.Goals as goal

pub slice_bounds-digit-items-end : goal.slice_bounds-digit-items-end
slice_bounds-digit-items-end c =
    sym (length-take-le c.args.n c.args.bytes.now (omega (arith, leading-in is_digit c.args.bytes.now)))

pub loop-digit-init : goal.loop-digit-init
unfolding decimal
loop-digit-init c = refl

pub overflow_mul-value : goal.overflow_mul-value
overflow_mul-value c = omega (arith, turn c.args.bytes.now c.args.n _ c.requires.n_bound c.requires.n_bound_2 c.loop-digit-test.true)

pub overflow_sub-digit : goal.overflow_sub-digit
overflow_sub-digit c = (turn c.args.bytes.now c.args.n _ c.requires.n_bound c.requires.n_bound_2 c.loop-digit-test.true).low

pub overflow_add-value : goal.overflow_add-value
overflow_add-value c = omega (arith, turn c.args.bytes.now c.args.n _ c.requires.n_bound c.requires.n_bound_2 c.loop-digit-test.true)

pub loop-digit-preserved : goal.loop-digit-preserved
loop-digit-preserved c = omega (arith, turn c.args.bytes.now c.args.n _ c.requires.n_bound c.requires.n_bound_2 c.loop-digit-test.true)
