-- The four words as they stand are the rows' pixels, since all are full.
use Rattle.std.proofs.Common.{ℕ, ◌+◌, ◌-◌, ◌<◌, ◌≤◌, length, refl, arith}
use Rattle.words.specs.declared.moves.Move.{Move}
use Rattle.words.proofs.JoinLaws.{full-le}
use Rattle.differing.specs.declared.FramePair.{FramePair}
use Rattle.differing.specs.RowDifferences.{RowsIn}
use Rattle.differing.proofs.DifferLaws.{interior-differ}
use Rattle.differing.proofs.differing_word.Goals as goal

place : (p : FramePair) (m : Move) (base from k : ℕ) → m.first ≤ k → k < m.end → RowsIn p base from m.w
    → (1 ≤ from + k + 33554432 - m.q)
    × ((from + k + 33554432 - m.q < length p.threshold2.now) × (from + k + 33554432 - m.q < length p.exclusion2.now))
place p m base from k l h r =
    let i = m.moves.inside k l h in
    let f = full-le m.w in
    (omega (arith, i.low), (omega (arith, r.threshold2, i.high), omega (arith, r.exclusion2, i.high)))

pub bounds-pair-j : goal.bounds-pair-j
bounds-pair-j c =
    let a = c.args in
    omega (arith, place a.pair.now a.m a.base a.from a.k c.requires.here.0 c.requires.here.1 c.requires.rows)

pub bounds-pair-j-2 : goal.bounds-pair-j-2
bounds-pair-j-2 c =
    let a = c.args in
    omega (arith, place a.pair.now a.m a.base a.from a.k c.requires.here.0 c.requires.here.1 c.requires.rows)

pub bounds-pair-j-3 : goal.bounds-pair-j-3
bounds-pair-j-3 c =
    let a = c.args in
    omega (arith, place a.pair.now a.m a.base a.from a.k c.requires.here.0 c.requires.here.1 c.requires.rows)

pub bounds-pair-j-4 : goal.bounds-pair-j-4
bounds-pair-j-4 c =
    let a = c.args in
    omega (arith, place a.pair.now a.m a.base a.from a.k c.requires.here.0 c.requires.here.1 c.requires.rows)

pub returns : goal.returns
returns c =
    let a = c.args in
    let p = a.pair.now in
    interior-differ p.threshold1.now p.exclusion1.now p.threshold2.now p.exclusion2.now a.base a.from a.m.w a.m.q a.m.r a.k
    (a.from + a.k + 33554432 - a.m.q) c.joined_word-threshold.result c.joined_word-exclusion.result
    a.m.moves.bits (a.m.moves.inside a.k c.requires.here.0 c.requires.here.1) refl c.joined_word-threshold.ensures c.joined_word-exclusion.ensures
