-- The value is what the digits passed spell.
use Rattle.std.proofs.Common.{◌≡◌, take}
use Rattle.text.specs.Digits.{decimal}
use Rattle.text.proofs.value_of.Given as goal

abbrev pub invariant-loop-digit : goal.invariant-loop-digit
invariant-loop-digit l = l.value ≡ decimal 0 (take l.digit-index l.bytes)
