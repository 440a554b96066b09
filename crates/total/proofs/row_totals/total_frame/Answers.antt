-- A row's words lie in the bitmap, and each row adds its own sum.
use Rattle.std.proofs.Common.{◌≡◌, ◌+◌, ◌*◌, ◌-◌, ◌≤◌, ℕ, length, sym, ap, ◌∙◌, arith}
use Rattle.rules.specs.Sums.{row_sum}
use Rattle.rules.specs.Bitmaps.{bit_at}
use Rattle.rules.proofs.SumLaws.{sum-none}
use Rattle.popcount.proofs.RowLaws.{row-words-le, row_room, rows-le, rows_more}
use Rattle.total.proofs.TotalLaws.{last_word, total-row, total-row-le, total-whole}
use Rattle.total.proofs.row_totals.total_frame.Goals as goal

pub overflow_sub-last : goal.overflow_sub-last
overflow_sub-last c = (last_word c.args.w c.row_words-n.result c.requires.width.0 c.row_words-n.ensures).0

pub overflow_mul-rest : goal.overflow_mul-rest
overflow_mul-rest c =
    let k = row-words-le c.args.w c.requires.width.1 in
    omega arith

pub overflow_sub-rest : goal.overflow_sub-rest
overflow_sub-rest c =
    let k = last_word c.args.w c.row_words-n.result c.requires.width.0 c.row_words-n.ensures in
    omega arith

pub loop-y-init : goal.loop-y-init
loop-y-init c = let a = c.args in sym (sum-none (row_sum a.w (bit_at a.w a.h a.bitmap.now)))

pub row_total-count-requires-clause-row : goal.row_total-count-requires-clause-row
row_total-count-requires-clause-row c =
    let k = last_word c.args.w c.row_words-n.result c.requires.width.0 c.row_words-n.ensures in
    (omega arith, (omega arith, omega arith))

pub row_total-count-requires-clause-room : goal.row_total-count-requires-clause-room
row_total-count-requires-clause-room c =
    let a = c.args in
    let n = c.row_words-n in
    let k = last_word a.w n.result c.requires.width.0 n.ensures in
    omega (arith, row_room n.result a.w a.h c.loop-y.y (length a.bitmap.now) n.ensures c.requires.room (omega arith))

row : (c : goal.After-row_total-count)
    → let a = c.args in c.row_total-count.result ≡ row_sum a.w (bit_at a.w a.h a.bitmap.now) c.loop-y.y
row c =
    let a = c.args in
    let n = c.row_words-n in
    let y = c.loop-y.y in
    let last = n.result - 1 in
    let k = last_word a.w n.result c.requires.width.0 n.ensures in
    c.row_total-count.ensures
    ∙ total-row a.w (last * 64 + (a.w - last * 64)) a.h y (y * n.result) a.bitmap.now (omega arith) (omega arith)
    (ap (λ (m : ℕ). y * m) n.ensures)

pub overflow_add-count : goal.overflow_add-count
overflow_add-count c =
    let a = c.args in
    let small : (z : ℕ) → row_sum a.w (bit_at a.w a.h a.bitmap.now) z ≤ 4096 = λ z. total-row-le a.w a.h z a.bitmap.now c.requires.width.1 in
    let y = c.loop-y.y in
    omega (arith, c.requires.height, c.loop-y.invariant, rows-le (row_sum a.w (bit_at a.w a.h a.bitmap.now)) y small, small y, row c)

pub loop-y-preserved : goal.loop-y-preserved
loop-y-preserved c =
    let a = c.args in
    let l = c.loop-y in
    rows_more (row_sum a.w (bit_at a.w a.h a.bitmap.now)) l.y l.count c.row_total-count.result l.invariant (row c)

pub returns : goal.returns
returns c =
    let a = c.args in
    let l = c.loop-y in
    let e : l.y ≡ a.h = omega arith in
    rw e at l.invariant ∙ total-whole a.w a.h a.bitmap.now
