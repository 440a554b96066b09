-- Each return is a law of the decision, from what the two companions have answered.
use mathlib.Core.Path.{refl, sym}
use Rattle.files_text.proofs.FilesTextLaws.{first-refused, second-refused, same_number, both-good}
use Rattle.files_text.proofs.put_files.Goals as goal

pub returns-in-Err : goal.returns-in-Err
returns-in-Err c =
    let a = c.args in
    record {
      wrote = rw (first-refused a.s a.tolerance a.percentile a.first.now a.second.now _ (sym c.in-Err.ensures), ← c.from.ensures) c.put_refused.ensures;
      memory_kept = λ e. (refl, refl);
    }

pub returns-in-Err-held2 : goal.returns-in-Err-held2
returns-in-Err-held2 c =
    let a = c.args in
    record {
      wrote =
          rw (second-refused a.s a.tolerance a.percentile a.first.now a.second.now _ (sym c.in-Ok.ensures) _ (sym c.in-Err-held2.ensures), ← c.from-in-Err-held2.ensures)
          c.put_refused-in-Err-held2.ensures;
      memory_kept = λ e. (refl, refl);
    }

pub returns-in-Ok-held2 : goal.returns-in-Ok-held2
returns-in-Ok-held2 c =
    let a = c.args in
    let first = sym c.in-Ok.ensures in
    let second = sym c.in-Ok-held2.ensures in
    let put = rw (c.p6_raster.ensures.holds, c.raster_of_size.ensures) at c.put_pair.ensures in
    record {
      wrote = rw (both-good a.s a.tolerance a.percentile a.first.now a.second.now _ first _ second) put.wrote;
      memory_kept = rw (same_number a.s a.tolerance a.percentile a.first.now a.second.now _ first _ second) put.memory_kept;
    }
