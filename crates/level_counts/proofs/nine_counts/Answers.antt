-- A column's numbers are written behind those of the columns before it; the four bitmaps, which give them, are kept.
use mathlib.Core.Path.{◌≡◌, ◌∙◌}
use Prim.Native.Nat.{◌+◌, ◌*◌}
use Rattle.rules.specs.Bitmaps.{row_words}
use Rattle.rules.specs.Levels.{candidate_at}
use Rattle.rules.proofs.FrameLaws.{row-join}
use Rattle.slid_counts.specs.SlidPlaces.{KeptTo}
use Rattle.slid_counts.proofs.SlidCountLaws.{count_kept, compared-kept}
use Rattle.level_counts.proofs.nine_counts.Goals as goal
use native.Mathlib.Omega.{arith}

pub loop-i-preserved : goal.loop-i-preserved
loop-i-preserved c =
    let a = c.args in
    let l = c.loop-i in
    let slide = c.slide_second in
    let three = c.three_counts in
    let kept : KeptTo (4 * (row_words a.w * a.h)) a.words.now slide.new.words =
    record { len = slide.ensures.kept.len ∙ l.invariant.kept.len; under = λ m k. slide.ensures.kept.under m k ∙ l.invariant.kept.under m k } in
    let e : 3 * l.i + 3 ≡ 3 * (l.i + 1) = omega arith in
    record {
      kept = kept;
      counted = rw e at (row-join a.at _ _ a.counts.now l.counts three.new.counts (3 * l.i) 3 l.invariant.counted three.ensures.counts
          (λ j k. count_kept a.w a.h a.words.now slide.new.words kept (candidate_at a.centre (3 * l.i + j))));
      compared = rw e at (row-join a.at _ _ a.compared.now l.compared three.new.compared (3 * l.i) 3 l.invariant.compared three.ensures.compared
          (λ j k. compared-kept a.w a.h a.words.now slide.new.words kept (candidate_at a.centre (3 * l.i + j))));
    }
