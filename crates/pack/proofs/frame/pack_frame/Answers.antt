-- One row more of both bitmaps.
use Rattle.pack.proofs.OutsideLaws.{frame_row, row-place}
use Rattle.pack.proofs.frame.pack_frame.Goals as goal

pub loop-y-preserved : goal.loop-y-preserved
loop-y-preserved c =
    let a = c.args in
    let y = c.loop-y.y in
    let place = (row-place a.w a.h c.row_words-n.result y c.row_words-n.ensures c.loop-y-test.true).0 in
    record {
      first = frame_row 0 a.threshold a.w y a.grey.now 0 _ a.thresholds.now c.loop-y.thresholds _ place c.loop-y.invariant.first c.pack_row.ensures;
      second = frame_row a.lo a.hi a.w y a.grey.now 0 _ a.exclusions.now c.loop-y.exclusions _ place c.loop-y.invariant.second c.pack_row-in-loop-y.ensures;
    }
