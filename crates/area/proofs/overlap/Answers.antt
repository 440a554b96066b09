-- The four numbers are the sides, and an area that is not empty has no negative one.
use Rattle.area.specs.Sides.{axis_of}
use Rattle.area.proofs.SideLaws.{Bounds, low-casts, high-casts, area-told, no-column, no_row}
use Rattle.area.proofs.overlap.Goals as goal
use Rattle.area.proofs.overlap.Goals.{else-left-right-via-then-left-right+else-top-bottom, else-left-right-via-else-left-right}

pub overflow_cast-result : goal.overflow_cast-result
overflow_cast-result c =
    let columns : Bounds c.args.w c.args.n (axis_of c.args.offsets.now 0) c.low_side-left.result c.high_side-right.result = record {
      low-is = c.low_side-left.ensures;
      high_is = c.high_side-right.ensures;
      low_fits = c.low_side-left.type_inv;
      high_fits = c.high_side-right.type_inv;
    } in
    low-casts _ _ _ _ _ columns

pub overflow_cast-result-then-top-bottom : goal.overflow_cast-result-then-top-bottom
overflow_cast-result-then-top-bottom c =
    let columns : Bounds c.args.w c.args.n (axis_of c.args.offsets.now 0) c.low_side-left.result c.high_side-right.result = record {
      low-is = c.low_side-left.ensures;
      high_is = c.high_side-right.ensures;
      low_fits = c.low_side-left.type_inv;
      high_fits = c.high_side-right.type_inv;
    } in
    high-casts _ _ _ _ _ columns c.if-left-right.true

pub overflow_cast-result-then-top-bottom-2 : goal.overflow_cast-result-then-top-bottom-2
overflow_cast-result-then-top-bottom-2 c =
    let lines : Bounds c.args.h c.args.n (axis_of c.args.offsets.now 1) c.low_side-top.result c.high_side-bottom.result = record {
      low-is = c.low_side-top.ensures;
      high_is = c.high_side-bottom.ensures;
      low_fits = c.low_side-top.type_inv;
      high_fits = c.high_side-bottom.type_inv;
    } in
    low-casts _ _ _ _ _ lines

pub overflow_cast-result-then-top-bottom-3 : goal.overflow_cast-result-then-top-bottom-3
overflow_cast-result-then-top-bottom-3 c =
    let lines : Bounds c.args.h c.args.n (axis_of c.args.offsets.now 1) c.low_side-top.result c.high_side-bottom.result = record {
      low-is = c.low_side-top.ensures;
      high_is = c.high_side-bottom.ensures;
      low_fits = c.low_side-top.type_inv;
      high_fits = c.high_side-bottom.type_inv;
    } in
    high-casts _ _ _ _ _ lines c.if-top-bottom.true

pub returns-then-top-bottom : goal.returns-then-top-bottom
returns-then-top-bottom c =
    let columns : Bounds c.args.w c.args.n (axis_of c.args.offsets.now 0) c.low_side-left.result c.high_side-right.result = record {
      low-is = c.low_side-left.ensures;
      high_is = c.high_side-right.ensures;
      low_fits = c.low_side-left.type_inv;
      high_fits = c.high_side-right.type_inv;
    } in
    let lines : Bounds c.args.h c.args.n (axis_of c.args.offsets.now 1) c.low_side-top.result c.high_side-bottom.result = record {
      low-is = c.low_side-top.ensures;
      high_is = c.high_side-bottom.ensures;
      low_fits = c.low_side-top.type_inv;
      high_fits = c.high_side-bottom.type_inv;
    } in
    area-told _ _ _ _ _ _ _ _ columns lines c.if-left-right.true c.if-top-bottom.true

pub returns : goal.returns
returns c =
    let columns : Bounds c.args.w c.args.n (axis_of c.args.offsets.now 0) c.low_side-left.result c.high_side-right.result = record {
      low-is = c.low_side-left.ensures;
      high_is = c.high_side-right.ensures;
      low_fits = c.low_side-left.type_inv;
      high_fits = c.high_side-right.type_inv;
    } in
    let lines : Bounds c.args.h c.args.n (axis_of c.args.offsets.now 1) c.low_side-top.result c.high_side-bottom.result = record {
      low-is = c.low_side-top.ensures;
      high_is = c.high_side-bottom.ensures;
      low_fits = c.low_side-top.type_inv;
      high_fits = c.high_side-bottom.type_inv;
    } in
    elim c.else-left-right.branch [
      | else-left-right-via-then-left-right+else-top-bottom w ↦ no_row _ _ _ _ _ _ _ _ columns lines w.if-left-right.true w.if-top-bottom.false
      | else-left-right-via-else-left-right w ↦ no-column _ _ _ _ _ _ _ _ columns lines w.if-left-right.false
    ]
