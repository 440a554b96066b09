-- One column more.
use Rattle.std.proofs.Common.{◌≡◌, arith}
use Rattle.shift_words.specs.MovedParts.{moved_rows}
use Rattle.shift_words.proofs.MovedPartLaws.{columns-more}
use Rattle.shift_words.proofs.move_columns.Goals as goal

pub loop-k-preserved : goal.loop-k-preserved
loop-k-preserved c =
    let a = c.args in
    columns-more a.to a.m.n (moved_rows a.src.now a.from a.m) a.h a.first c.loop-k.k a.dst.now c.loop-k.dst c.move_column.new.dst (omega arith) (omega arith)
    c.loop-k.invariant c.move_column.ensures

pub returns : goal.returns
returns c = let e : c.loop-k.k ≡ c.args.end = omega arith in rw e at c.loop-k.invariant
