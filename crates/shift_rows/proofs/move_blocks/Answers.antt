-- A block is the rows after those that are written.
use Rattle.std.proofs.Common.{◌≡◌, ◌+◌, ◌*◌, ◌/◌, min, arith}
use Rattle.words.proofs.MoveLaws.{row-words-max}
use Rattle.shift_words.specs.MovedParts.{moved_rows}
use Rattle.shift_rows.proofs.PlacedRowLaws.{block-more, rows_fit, rows_on}
use Rattle.rules.proofs.FrameLaws.{frame-none}
use Rattle.shift_rows.proofs.move_blocks.Goals as goal

pub overflow_add-block : goal.overflow_add-block
overflow_add-block c = omega (arith, c.args.m.moves, row-words-max c.args.m.w c.args.m.moves.width)

pub loop-y-init : goal.loop-y-init
loop-y-init c =
    let a = c.args in
    let e : 0 ≡ min 0 a.h = omega arith in
    rw e at (frame-none a.to a.m.n (moved_rows a.src.now a.from a.m) a.dst.now)

pub move_rows-requires-clause-source : goal.move_rows-requires-clause-source
move_rows-requires-clause-source c = omega (arith, rows_fit c.args.m.n c.args.h c.loop-y.y c.min-rows.result (omega arith))

pub move_rows-requires-clause-room : goal.move_rows-requires-clause-room
move_rows-requires-clause-room c = omega (arith, rows_fit c.args.m.n c.args.h c.loop-y.y c.min-rows.result (omega arith))

pub loop-y-preserved : goal.loop-y-preserved
loop-y-preserved c =
    let a = c.args in
    let y = c.loop-y.y in
    block-more a.to a.m.n (moved_rows a.src.now a.from a.m) (moved_rows a.src.now (a.from + y * a.m.n) a.m) a.h y (2048 / (a.m.n + 1) + 1) c.min-rows.result
    a.dst.now c.loop-y.dst c.move_rows.new.dst c.loop-y-test.true c.min-rows.ensures c.loop-y.invariant c.move_rows.ensures
    (λ k z l. rows_on a.src.now a.from a.m k y z)

pub returns : goal.returns
returns c = let e : min c.loop-y.y c.args.h ≡ c.args.h = omega arith in rw e at c.loop-y.invariant

pub returns-2 : goal.returns-2
returns-2 c =
    let a = c.args in
    let y = c.loop-y.y in
    let block = 2048 / (a.m.n + 1) + 1 in
    let e : min (y + block) a.h ≡ a.h = omega arith in
    rw e at
    (block-more a.to a.m.n (moved_rows a.src.now a.from a.m) (moved_rows a.src.now (a.from + y * a.m.n) a.m) a.h y block c.min-rows.result
    a.dst.now c.loop-y.dst c.move_rows.new.dst c.loop-y-test.true c.min-rows.ensures c.loop-y.invariant c.move_rows.ensures
    (λ k z l. rows_on a.src.now a.from a.m k y z))
