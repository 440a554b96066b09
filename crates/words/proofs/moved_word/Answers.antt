-- A case each for two words joined, whole or masked, the row's first word, and a word left of the moved row.
use Rattle.std.proofs.Common.{◌+◌, ◌-◌, get_or, arith}
use Rattle.words.specs.Rows.{row_bit}
use Rattle.words.proofs.MoveLaws.{row-words-over, row-whole, moved_before, moved-first}
use Rattle.words.proofs.JoinLaws.{joined-whole}
use Rattle.words.proofs.moved_word.Goals as goal

pub bounds-src-base : goal.bounds-src-base
bounds-src-base c = omega (arith, row-words-over c.args.w (c.args.k - c.args.q) (omega arith))

pub bounds-src-base-then-j-w : goal.bounds-src-base-then-j-w
bounds-src-base-then-j-w c = omega (arith, row-words-over c.args.w (c.args.k - c.args.q) (omega arith))

pub returns-then-j-w : goal.returns-then-j-w
returns-then-j-w c =
    let a = c.args in
    let j = a.k - a.q in
    joined-whole (row_bit a.src.now a.base a.w) a.k a.q a.r (get_or a.src.now (a.base + j) 0) (get_or a.src.now (a.base + (j - 1)) 0) c.joined_word.result
    (omega arith) (omega arith)
    (row-whole a.src.now a.base a.w j (omega arith)) (row-whole a.src.now a.base a.w (j - 1) (omega arith)) c.joined_word.ensures

pub returns-then-q-k : goal.returns-then-q-k
returns-then-q-k c =
    let a = c.args in
    joined-whole (row_bit a.src.now a.base a.w) a.k a.q a.r c.row_word-high.result c.row_word-low.result c.joined_word-then-q-k.result
    (omega arith) (omega arith) c.row_word-high.ensures c.row_word-low.ensures c.joined_word-then-q-k.ensures

pub returns-then-q-k-2 : goal.returns-then-q-k-2
returns-then-q-k-2 c =
    let a = c.args in
    moved-first (row_bit a.src.now a.base a.w) a.k a.q a.r c.row_word.result (omega arith) c.row_word.ensures

pub returns : goal.returns
returns c =
    let a = c.args in
    moved_before (row_bit a.src.now a.base a.w) a.k a.q a.r (omega arith)
