-- One word more is turned; at the end all are.
use Rattle.std.proofs.Common.{◌≡◌, ℕ, ◌+◌, ◌-◌, arith, length-drop}
use Rattle.std.proofs.lemmas.List.{length-take}
use Rattle.gather.proofs.TurnLaws.{turn-word, part-turned}
use Rattle.gather.proofs.turning.turn_row.Goals as goal

pub loop-word-preserved : goal.loop-word-preserved
loop-word-preserved c =
    turn-word c.loop-word.word-index _ c.loop-word.word-items c.turn.result (omega arith) c.turn.ensures c.loop-word.invariant

pub returns : goal.returns
returns c =
    let a = c.args in
    let n : a.to + a.n - a.to ≡ a.n = omega arith in
    let all : c.loop-word.word-index ≡ a.n = omega (arith, length-take {A = ℕ}, length-drop {A = ℕ}) in
    rw n (part-turned a.to a.n a.words.now c.loop-word.word-items c.requires (rw (n, all) at c.loop-word.invariant))
