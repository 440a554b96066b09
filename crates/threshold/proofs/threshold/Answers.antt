-- An accepted call's sizes are what the core requires, and the list's threshold is its frame's.
use Rattle.std.proofs.Common.{sym, ◌∙◌, arith}
use Rattle.std.specs.Prelude.{Ok}
use native.Mathlib.Nat.{mul-le-mul}
use Rattle.rules.proofs.RefusalLaws.{threshold-ok}
use Rattle.threshold.proofs.FlatLaws.{threshold-flat}
use Rattle.threshold.proofs.threshold.Goals as goal

pub histogram-counts-requires : goal.histogram-counts-requires
histogram-counts-requires c = let k = threshold-ok _ _ _ _ (sym c.in_ok-threshold_refusal.ensures) in let m = mul-le-mul k.size.wide k.size.high in omega arith

pub threshold_of-requires : goal.threshold_of-requires
threshold_of-requires c =
    let k = threshold-ok _ _ _ _ (sym c.in_ok-threshold_refusal.ensures) in
    let m = mul-le-mul k.size.wide k.size.high in
    (c.histogram-counts.ensures.all, omega arith, omega arith)

pub returns : goal.returns
returns c =
    let a = c.args in
    let k = threshold-ok _ _ _ _ (sym c.in_ok-threshold_refusal.ensures) in
    let value = c.threshold_of.ensures a.grey.now c.histogram-counts.ensures ∙ threshold-flat a.w a.h a.percentile a.grey.now k.exact in
    rw (← c.in_ok-threshold_refusal.ensures) (λ i. Ok (value i))
