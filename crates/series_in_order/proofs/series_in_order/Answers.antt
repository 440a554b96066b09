-- A refused call answers its number and touches nothing; an accepted one has the sizes that the core requires.
use Rattle.std.proofs.Common.{sym}
use Rattle.std.proofs.lemmas.Result.{err_from_is_err_and}
use lib.ListN.{length}
use Rattle.rules.specs.Levels.{arranged}
use Rattle.rules.specs.Series.{series_answer}
use Rattle.rules.proofs.RefusalLaws.{number-nonzero}
use Rattle.rules.proofs.AlignmentLaws.{series-ok}
use Rattle.series_in_order.specs.Settings.{settings_of}
use Rattle.series_in_order.proofs.SeriesAnswerLaws.{refused-left, accepted-left}
use Rattle.series_in_order.proofs.series_in_order.Goals as goal

pub returns-in_err-series_refusal : goal.returns-in_err-series_refusal
returns-in_err-series_refusal c =
    let a = c.args in
    let e = c.in_err-series_refusal in
    let p = err_from_is_err_and c.from_residual.result c.from_residual.ensures.1 in
    rw (p.1, p.2)
    (refused-left _ _ (series_answer (arranged a.order.now.places) (settings_of a.setup a.n a.r a.percentiles.now) a.rasters.now)
    a.offsets.now a.counts.now a.compared.now a.grey.now a.words.now (rw c.exclusion_refusal.ensures at e.ensures) (number-nonzero e.field-0.0))

pub align_series-requires : goal.align_series-requires
align_series-requires c =
    let a = c.args in
    record {
      accepted = series-ok a.setup.w a.setup.h a.setup.s a.setup.exclusion a.n a.r a.percentiles.now (length a.rasters.now) (length a.offsets.now)
          (length a.counts.now) (length a.compared.now) (length a.grey.now) (length a.words.now) (sym (rw c.exclusion_refusal.ensures at c.in_ok-series_refusal.ensures));
    }

pub returns : goal.returns
returns c =
    let a = c.args in
    let r = c.align_series in
    accepted-left _ (series_answer (arranged a.order.now.places) (settings_of a.setup a.n a.r a.percentiles.now) a.rasters.now)
    a.offsets.now _ a.counts.now _ a.compared.now _ a.grey.now _ a.words.now _
    (sym (rw c.exclusion_refusal.ensures at c.in_ok-series_refusal.ensures)) r.ensures.offsets r.ensures.counts r.ensures.compared
