-- A word more is one row more.
use Rattle.std.proofs.Common.{◌≡◌, arith}
use Rattle.shift_words.specs.MovedParts.{moved_rows}
use Rattle.shift_words.proofs.MovedPartLaws.{column-more}
use Rattle.shift_words.proofs.move_column.Goals as goal

pub loop-y-preserved : goal.loop-y-preserved
loop-y-preserved c =
    let a = c.args in
    column-more a.to a.m.n (moved_rows a.src.now a.from a.m) a.h a.k c.loop-y.y c.clipped_word.result a.dst.now c.loop-y.dst c.requires.room
    c.requires.here c.loop-y-test.true c.loop-y.invariant c.clipped_word.ensures

pub returns : goal.returns
returns c = let e : c.loop-y.y ≡ c.args.h = omega arith in rw e at c.loop-y.invariant
