-- A whole turn lies in the frame, and each table has room for its pixel.
use Rattle.std.proofs.Common.{◌≡◌, ◌+◌, ◌*◌, arith}
use Rattle.histogram.proofs.CountLaws.{tally-room, tally-more}
use Rattle.histogram.proofs.count_fours.Goals as goal

pub bump-requires : goal.bump-requires
bump-requires c = let t = c.loop-turn in (tally-room _ (4 * t.turn) t.a t.b t.c t.d (omega arith) t.invariant _).0

pub bump-requires-in-loop-turn : goal.bump-requires-in-loop-turn
bump-requires-in-loop-turn c = let t = c.loop-turn in (tally-room _ (4 * t.turn) t.a t.b t.c t.d (omega arith) t.invariant _).1

pub bump-requires-in-loop-turn-2 : goal.bump-requires-in-loop-turn-2
bump-requires-in-loop-turn-2 c = let t = c.loop-turn in (tally-room _ (4 * t.turn) t.a t.b t.c t.d (omega arith) t.invariant _).2

pub bump-requires-in-loop-turn-3 : goal.bump-requires-in-loop-turn-3
bump-requires-in-loop-turn-3 c = let t = c.loop-turn in (tally-room _ (4 * t.turn) t.a t.b t.c t.d (omega arith) t.invariant _).3

pub loop-turn-preserved : goal.loop-turn-preserved
loop-turn-preserved c =
    let t = c.loop-turn in
    let next : 4 * t.turn + 4 ≡ 4 * (t.turn + 1) = omega arith in
    rw next at
    (tally-more _ (4 * t.turn) t.a t.b t.c t.d _ _ _ _ t.invariant
    c.bump.ensures
    c.bump-in-loop-turn.ensures
    c.bump-in-loop-turn-2.ensures
    c.bump-in-loop-turn-3.ensures)
