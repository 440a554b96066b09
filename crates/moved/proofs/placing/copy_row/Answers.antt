-- The three runs, one after the other, are the row.
use Rattle.std.proofs.Common.{ℕ, ◌+◌, ◌-◌, ◌*◌, List, arith, rules}
use borrow.Rule.Slice.PartMut.{put_mid}
use Rattle.moved.proofs.SpanLaws.{row_zeros, row_copied, row-of-runs}
use Rattle.moved.proofs.placing.copy_row.Goals as goal

pub returns : goal.returns
returns c =
    let a = c.args in
    let s = a.columns in
    let p : ℕ = a.to + 3 * s.to in
    let q : ℕ = p + 3 * s.count in
    let from : ℕ = 3 * (a.z * a.w + s.from) in
    let one : List ℕ = put_mid a.to (p - a.to) a.out.now c.fill.new.self in
    let two : List ℕ = put_mid p (q - p) one c.copy_from_slice.new.self in
    let first = row_zeros a.to (3 * s.to) (p - a.to) a.out.now c.fill.new.self (omega arith) (omega arith) (c.fill.ensures.after (λ y e. e)) in
    let middle = row_copied p (3 * s.count) (q - p) from (from + 3 * s.count - from) one c.copy_from_slice.new.self a.raster.now (omega arith) (omega arith) (omega arith) (omega arith) c.copy_from_slice.ensures.after in
    let last = row_zeros q (3 * a.w - 3 * s.to - 3 * s.count) (a.to + 3 * a.w - q) two c.fill-2.new.self (omega arith) (omega arith) (c.fill-2.ensures.after (λ y e. e)) in
    row-of-runs a.w a.raster.now s a.z a.to a.out.now one two _ (search rules) first middle last
