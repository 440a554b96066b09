-- The words from `first` up to `end` are interior: omega over the clamps.
use mathlib.Core.Path.{refl}
use Prim.Native.Nat.{◌-◌, ◌%◌}
use native.Mathlib.Omega.{arith}
use Rattle.words.proofs.JoinLaws.{moves}
use Rattle.words.proofs.moves.move_by.Goals as goal

pub invariant_of-result : goal.invariant_of-result
invariant_of-result c =
    let e = c.min-end.result in
    let f = c.min-first.result in record {
      moves =
          moves c.args.w c.row_words-n.result c.quotient-q.result c.remainder-r.result f (e - (e - f) % 7) e c.args.d
          c.requires.width c.row_words-n.ensures c.remainder-r.ensures (omega arith) (omega arith) refl;
    }
