-- A refused call answers its number and touches nothing; an accepted one has the sizes that the core requires.
use Rattle.std.proofs.Common.{sym}
use Rattle.std.proofs.lemmas.Result.{err_from_is_err_and}
use lib.ListN.{length}
use Rattle.rules.specs.Levels.{arranged}
use Rattle.rules.specs.Calls.{pair_result}
use Rattle.rules.proofs.RefusalLaws.{number-nonzero}
use Rattle.rules.proofs.AlignmentLaws.{pair_ok}
use Rattle.pair_in_order.proofs.PairCallLaws.{refused-left, accepted-left}
use Rattle.pair_in_order.proofs.pair_in_order.Goals as goal

pub returns-in_err-pair_refusal : goal.returns-in_err-pair_refusal
returns-in_err-pair_refusal c =
    let a = c.args in
    let e = c.in_err-pair_refusal in
    let p = err_from_is_err_and c.from_residual.result c.from_residual.ensures.1 in
    rw (p.1, p.2)
    (refused-left _ _ (pair_result (arranged a.order.now.places) a.setup a.first.now a.second.now)
    a.counts.now a.compared.now a.grey.now a.words.now (rw c.exclusion_refusal.ensures at e.ensures) (number-nonzero e.field-0.0))

pub align_rasters-requires : goal.align_rasters-requires
align_rasters-requires c =
    let a = c.args in
    record {
      accepted = pair_ok a.setup.w a.setup.h a.setup.s a.setup.exclusion a.setup.percentile (length a.first.now) (length a.second.now) (length a.counts.now)
          (length a.compared.now) (length a.grey.now) (length a.words.now) (sym (rw c.exclusion_refusal.ensures at c.in_ok-pair_refusal.ensures));
    }

pub returns : goal.returns
returns c =
    let a = c.args in
    let r = c.align_rasters in
    accepted-left _ (pair_result (arranged a.order.now.places) a.setup a.first.now a.second.now)
    a.counts.now _ a.compared.now _ a.grey.now _ a.words.now _ r.result
    (sym (rw c.exclusion_refusal.ensures at c.in_ok-pair_refusal.ensures)) r.ensures.offset r.ensures.counts r.ensures.compared
