-- The settings line decides; what is put at the beginning of the buffer is the whole output.
use Rattle.std.proofs.Common.{refl, sym}
use Rattle.report.proofs.OutputLaws.{bad-line, good-line, good-aligns}
use Rattle.output_lines.proofs.WriteLaws.{wrote_one, wrote-all}
use Rattle.report.proofs.report.Goals as goal

pub returns-in_default : goal.returns-in_default
returns-in_default c =
    let a = c.args in
    let whole = wrote-all _ _ _ _ (wrote_one _ _ _ _ _ (c.put.ensures.place, c.put.ensures.output)) in
    let text = bad-line a.input.now a.first.now a.second.now (sym c.in_default.ensures) in
    record { answered = rw text whole.0; output_is = rw text whole.1; memory_kept = λ e. (refl, refl) }

pub returns : goal.returns
returns c =
    let a = c.args in
    let given = sym c.in-Some.ensures in
    let put = rw (c.as_read.ensures, c.as_read-2.ensures) at c.put_files.ensures in
    let whole = wrote-all _ _ _ _ put.wrote in
    let text = good-line a.input.now a.first.now a.second.now _ given in
    record {
      answered = rw text whole.0;
      output_is = rw text whole.1;
      memory_kept = rw (good-aligns a.input.now a.first.now a.second.now _ given) put.memory_kept;
    }
