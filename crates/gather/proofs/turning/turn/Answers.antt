-- Three exchanges turn columns into rows.
use mathlib.Core.Path.{ap, ◌∙◌}
use native.Mathlib.Omega.{arith}
use Rattle.gather.specs.Gathers.{exchanged}
use Rattle.gather.proofs.TurnLaws.{turned-is}
use Rattle.gather.proofs.turning.turn.Goals as goal

pub returns : goal.returns
returns c =
    turned-is c.args.y c.exchange.result (omega arith)
    (c.exchange.ensures
    ∙ ap (exchanged 0x0000_0000_F0F0_F0F0 28) (c.exchange-twos.ensures ∙ ap (exchanged 0x0000_CCCC_0000_CCCC 14) c.exchange-ones.ensures))
