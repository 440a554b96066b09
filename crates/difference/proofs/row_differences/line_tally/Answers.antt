-- A row before, past or with its partner row.
use Rattle.std.proofs.Common.{◌+◌, ◌*◌, ◌-◌, sym, ◌∙◌, arith}
use Rattle.differing.proofs.DifferLaws.{line_before, line-past, line-paired}
use Rattle.difference.proofs.row_differences.line_tally.Goals as goal

pub returns-then-at-up : goal.returns-then-at-up
returns-then-at-up c =
    let a = c.args in
    let p = a.pair.now in
    sym (line_before p.threshold1.now p.exclusion1.now p.threshold2.now p.exclusion2.now a.m.w a.h (a.m.q * 64 + a.m.r) a.up a.y (omega arith))

pub returns-then-h-z : goal.returns-then-h-z
returns-then-h-z c =
    let a = c.args in
    let p = a.pair.now in
    sym (line-past p.threshold1.now p.exclusion1.now p.threshold2.now p.exclusion2.now a.m.w a.h (a.m.q * 64 + a.m.r) a.up a.y
    (a.y + 2147483648 - a.up) (omega arith) c.if-h-z.true)

pub returns : goal.returns
returns c =
    let a = c.args in
    let p = a.pair.now in
    c.row_tally.ensures
    ∙ line-paired p.threshold1.now p.exclusion1.now p.threshold2.now p.exclusion2.now a.m.w a.h (a.m.q * 64 + a.m.r) a.up a.y
    (a.y + 2147483648 - a.up) a.m.n (omega arith) (omega arith) a.m.moves.row
