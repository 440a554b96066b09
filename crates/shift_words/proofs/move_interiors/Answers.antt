-- The run's two parts are one.
use Rattle.std.proofs.Common.{◌+◌, ◌*◌, ◌-◌, ◌%◌, ◌<◌, arith}
use Rattle.words.specs.MovedRows.{moved_word}
use Rattle.shift_words.proofs.MovedPartLaws.{part_join, run-interiors}
use Rattle.shift_words.proofs.move_interiors.Goals as goal

pub returns : goal.returns
returns c =
    let first = c.move_run in
    let last = c.move_run-2 in
    let a = c.args in
    let m = a.m in
    let l : m.first < m.end = omega (arith, m.moves) in
    run-interiors a.src.now a.dst.now last.new.dst a.from m a.h a.to l (omega arith)
    (part_join (moved_word a.src.now a.from (m.n * a.h * 64) m.q m.r) a.dst.now first.new.dst last.new.dst
    a.to m.first (m.first + (a.to + m.first) % 2) ((a.h - 1) * m.n + m.end) (omega arith) (omega (arith, m.moves)) first.ensures last.ensures)
