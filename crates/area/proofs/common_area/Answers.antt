-- What is left to ask once no other number applies is whether the area is empty.
use Rattle.std.proofs.Common.{sym}
use Rattle.std.proofs.lemmas.Result.{err_from_is_err_and}
use Rattle.area.proofs.SideLaws.{refusal-split, refused-before, offsets-ok}
use Rattle.area.proofs.common_area.Goals as goal

pub returns-in_err-offsets_refusal : goal.returns-in_err-offsets_refusal
returns-in_err-offsets_refusal c =
    let a = c.args in
    let e = c.in_err-offsets_refusal in
    let p = err_from_is_err_and c.from_residual.result c.from_residual.ensures.1 in
    rw (p.1, p.2, refusal-split a.w a.h a.n a.offsets.now) (refused-before e.field-0.0 _ _ _ e.ensures)

pub overlap-requires-clause-width : goal.overlap-requires-clause-width
overlap-requires-clause-width c = let a = c.args in (offsets-ok a.w a.h a.n a.offsets.now (sym c.in_ok-offsets_refusal.ensures)).width

pub overlap-requires-clause-height : goal.overlap-requires-clause-height
overlap-requires-clause-height c = let a = c.args in (offsets-ok a.w a.h a.n a.offsets.now (sym c.in_ok-offsets_refusal.ensures)).height

pub overlap-requires-clause-exact : goal.overlap-requires-clause-exact
overlap-requires-clause-exact c = let a = c.args in (offsets-ok a.w a.h a.n a.offsets.now (sym c.in_ok-offsets_refusal.ensures)).exact

pub overlap-requires-clause-near : goal.overlap-requires-clause-near
overlap-requires-clause-near c = let a = c.args in (offsets-ok a.w a.h a.n a.offsets.now (sym c.in_ok-offsets_refusal.ensures)).range

pub returns : goal.returns
returns c = let a = c.args in rw (refusal-split a.w a.h a.n a.offsets.now, ← c.in_ok-offsets_refusal.ensures) c.overlap.ensures
