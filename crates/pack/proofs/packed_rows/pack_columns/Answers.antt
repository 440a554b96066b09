-- One word more; a last word of fewer pixels, where there are such.
use Rattle.std.proofs.Common.{◌≡◌, ◌+◌, ◌/◌, ◌%◌, arith}
use Rattle.rules.specs.Bitmaps.{row_words}
use Rattle.rules.specs.Buffers.{RowAt}
use Rattle.flags.proofs.FlagLaws.{weights-held}
use Rattle.pack.specs.Outside.{columns_word}
use Rattle.pack.proofs.OutsideLaws.{row-words, columns-word}
use Rattle.pack.proofs.packed_rows.pack_columns.Goals as goal

pub pack_word-requires : goal.pack_word-requires
pack_word-requires c = (omega arith, omega arith, omega arith, weights-held)

pub bounds-out-to : goal.bounds-out-to
bounds-out-to c = omega (arith, row-words c.args.w)

pub loop-k-preserved : goal.loop-k-preserved
loop-k-preserved c =
    let a = c.args in
    columns-word a.lo a.hi a.grey.now a.from a.w a.to c.loop-k.k 64 a.out.now c.loop-k.out c.pack_word.result (omega (arith, row-words a.w)) (omega arith)
    c.pack_word.ensures c.loop-k.invariant

pub pack_word-requires-then-rest-gt0 : goal.pack_word-requires-then-rest-gt0
pack_word-requires-then-rest-gt0 c = (omega arith, omega arith, omega arith, weights-held)

pub bounds-out-to-then-rest-gt0 : goal.bounds-out-to-then-rest-gt0
bounds-out-to-then-rest-gt0 c = omega (arith, row-words c.args.w)

pub returns-then-rest-gt0 : goal.returns-then-rest-gt0
returns-then-rest-gt0 c =
    let a = c.args in
    let full : c.loop-k.k ≡ a.w / 64 = omega arith in
    let more : a.w / 64 + 1 ≡ row_words a.w = omega (arith, row-words a.w) in
    let r : RowAt a.to (columns_word a.lo a.hi a.grey.now a.from a.w) a.out.now (a.w / 64) c.loop-k.out = rw full at c.loop-k.invariant in
    rw more at
    (columns-word a.lo a.hi a.grey.now a.from a.w a.to (a.w / 64) (a.w % 64) a.out.now c.loop-k.out c.pack_word-then-rest-gt0.result
    (omega (arith, row-words a.w)) (omega arith) c.pack_word-then-rest-gt0.ensures r)

pub returns-else-rest-gt0 : goal.returns-else-rest-gt0
returns-else-rest-gt0 c =
    let all : c.loop-k.k ≡ row_words c.args.w = omega (arith, row-words c.args.w) in
    rw all at c.loop-k.invariant
