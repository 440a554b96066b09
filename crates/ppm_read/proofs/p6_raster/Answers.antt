-- A refused file has an empty part; the raster of any other one begins in the file or at its end, is all the rest, and lies there.
use mathlib.Core.Path.{sym, ap, ◌∙◌}
use Prim.Native.Nat.{ℕ}
use Rattle.rules.specs.Parts.{place_from}
use Rattle.rules.proofs.RefusalLaws.{err-number, ok-number}
use Rattle.p6_whitespace.proofs.BlankLaws.{rest-whole}
use Rattle.p6_header.proofs.HeaderLaws.{start-within}
use Rattle.ppm_read.proofs.ReadAnswerLaws.{part-refused}
use native.Mathlib.Omega.{arith}
use Rattle.ppm_read.proofs.p6_raster.Goals as goal

pub returns-then-is_err : goal.returns-then-is_err
returns-then-is_err c =
    let e = c.file_refusal.ensures in
    let refused = err-number _ (sym c.is_err.ensures.value ∙ c.if-is_err.true) in
    record {
      holds = rw (← e) (part-refused _ _ refused);
      lies = λ z. absurd (refused (e ∙ z));
    }

pub slice_bounds-result-count : goal.slice_bounds-result-count
slice_bounds-result-count c = omega (arith, start-within c.args.file.now)

pub slice_bounds-result-start : goal.slice_bounds-result-start
slice_bounds-result-start c = omega (arith, start-within c.args.file.now)

pub returns : goal.returns
returns c =
    let file = c.args.file.now in
    let start = c.raster_start-start in
    record {
      holds = rw (sym c.file_refusal.ensures ∙ ok-number _ (sym c.is_err.ensures.value ∙ c.if-is_err.false), rest-whole file start.result, start.ensures);
      lies = λ z. ap (λ (k : ℕ). place_from k c.args.file.ref_ptr) start.ensures;
    }
