-- The three candidates of a column have one dx, by which the second frame has been slid.
use mathlib.Core.Path.{◌≡◌, ap, ◌∙◌}
use Prim.Native.Nat.{◌+◌, ◌*◌}
use Rattle.rules.specs.declared.Offset.{Offset}
use Rattle.rules.specs.Levels.{candidate_at}
use Rattle.rules.proofs.FrameLaws.{row_more}
use Rattle.slid_counts.specs.SlidPlaces.{words_count, words_compared}
use Rattle.level_counts.proofs.CandidateLaws.{candidate-near, column-dx}
use Rattle.level_counts.proofs.three_counts.Goals as goal
use native.Mathlib.Omega.{arith}

pub tally_slid-tally-requires-clause-near : goal.tally_slid-tally-requires-clause-near
tally_slid-tally-requires-clause-near c =
    rw c.candidate-m.ensures (candidate-near c.args.centre (3 * c.args.i + c.loop-j.j) (omega arith) c.requires.near)

pub tally_slid-tally-requires-clause-slid : goal.tally_slid-tally-requires-clause-slid
tally_slid-tally-requires-clause-slid c =
    let a = c.args in
    let same : c.candidate-m.result.dx ≡ (candidate_at a.centre (3 * a.i)).dx =
    ap (λ (m : Offset). m.dx) c.candidate-m.ensures ∙ column-dx a.centre a.i c.loop-j.j c.requires.column (omega arith) in
    rw same c.requires.slid

pub loop-j-preserved : goal.loop-j-preserved
loop-j-preserved c =
    let a = c.args in
    let l = c.loop-j in
    let m = c.candidate-m in
    let t = c.tally_slid-tally in
    record {
      counted = row_more a.at _ a.counts.now l.j l.counts t.result.count (omega arith) l.invariant.counted
          (t.ensures.0 ∙ ap (words_count a.w a.h a.words.now) m.ensures);
      compared = row_more a.at _ a.compared.now l.j l.compared t.result.compared (omega arith) l.invariant.compared
          (t.ensures.1 ∙ ap (words_compared a.w a.h a.words.now) m.ensures);
    }
