-- One flag more.
use Rattle.std.proofs.Common.{arith, ◌∙◌, refl}
use Rattle.std.proofs.Math.ListN.{length-set}
use Rattle.flags.proofs.FlagLaws.{flags-none, flags-more}
use Rattle.flags.proofs.flags_of.Goals as goal

pub loop-i-init : goal.loop-i-init
loop-i-init c = record { all = refl; first = flags-none c.args.lo c.args.hi c.args.grey.now c.args.at }

pub loop-i-preserved : goal.loop-i-preserved
loop-i-preserved c =
    let a = c.args in
    let i = c.loop-i.i in
    record {
      all = length-set c.loop-i.flags i c.outside_weight.result ∙ c.loop-i.invariant.all;
      first =
          flags-more a.lo a.hi a.grey.now a.at i c.loop-i.flags c.outside_weight.result _ (omega arith) (c.requires.3.held i (omega arith)) c.outside_weight.ensures
          c.loop-i.invariant.first;
    }
