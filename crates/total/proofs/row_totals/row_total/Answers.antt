-- Each full word adds its 1 bits, and the kept bits of the last one complete the row.
use Rattle.std.proofs.Common.{◌+◌, ◌*◌, ◌-◌, ◌≤◌, ◌<◌, ℕ, List, get_or, take, drop, arith}
use Rattle.words.specs.Rows.{row_bit}
use Rattle.words.proofs.MoveLaws.{row-whole}
use Rattle.popcount.specs.RowCounts.{Adds}
use Rattle.popcount.proofs.RowLaws.{word_next, adds-le, word-le, row_bit-lt}
use Rattle.total.proofs.TotalLaws.{row_ends, lent-full, lent_word}
use Rattle.total.proofs.row_totals.row_total.Goals as goal

so_far : (words : List ℕ) (base w k count : ℕ) → k ≤ 64 → Adds (row_bit words base w) 0 k count → count ≤ 4096
so_far words base w k count l a = omega (arith, adds-le (row_bit words base w) 0 k count (row_bit-lt words base w) a)

pub overflow_add-count : goal.overflow_add-count
overflow_add-count c =
    let a = c.args in
    let l = c.loop-word in
    let e = lent-full a.bitmap.now a.base a.last c.requires.room in
    omega (
      arith,
      so_far a.bitmap.now a.base (a.last * 64 + a.rest) l.word-index l.count (omega arith) l.invariant,
      word-le (get_or (take (a.base + a.last - a.base) (drop a.base a.bitmap.now)) l.word-index 0),
    )

pub loop-word-preserved : goal.loop-word-preserved
loop-word-preserved c =
    let a = c.args in
    let l = c.loop-word in
    let e = lent-full a.bitmap.now a.base a.last c.requires.room in
    let m : l.word-index < a.last = omega arith in
    word_next (row_bit a.bitmap.now a.base (a.last * 64 + a.rest)) 0 l.word-index l.count (get_or a.bitmap.now (a.base + l.word-index) 0) c.word_count-count.result l.invariant
    (row-whole a.bitmap.now a.base (a.last * 64 + a.rest) l.word-index (omega arith)) (rw (lent_word a.bitmap.now a.base a.last l.word-index c.requires.room m) at c.word_count-count.ensures)

pub overflow_add-result : goal.overflow_add-result
overflow_add-result c =
    let a = c.args in
    let l = c.loop-word in
    let e = lent-full a.bitmap.now a.base a.last c.requires.room in
    omega (arith, so_far a.bitmap.now a.base (a.last * 64 + a.rest) l.word-index l.count (omega arith) l.invariant, word-le c.keep_low.result)

pub returns : goal.returns
returns c =
    let a = c.args in
    let l = c.loop-word in
    let e = lent-full a.bitmap.now a.base a.last c.requires.room in
    row_ends a.bitmap.now a.base a.last a.rest l.word-index l.count c.keep_low.result c.word_count.result
    c.requires.row.1.0 c.requires.row.1.1 (omega arith) l.invariant c.keep_low.ensures c.word_count.ensures
