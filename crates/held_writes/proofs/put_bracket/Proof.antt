-- The first numbers are written, and 0 after the pairs.
use Prim.Native.Nat.{◌+◌, ◌*◌}
use Rattle.held_writes.proofs.WriteLaws.{bracket-put}
use borrow.Author.Rules.{rules}
use Rattle.held_writes.proofs.put_bracket.Statement.{statement}
use Rattle.held_writes.proofs.put_bracket.Tie as tie

pairs-in-requires : tie.Need-pairs_in-pairs-requires
pairs-in-requires c κs = search rules

put-first-requires : tie.Need-put_first-requires
put-first-requires c κs = search rules

mul-clear-from : tie.Need-overflow_mul-pairs
mul-clear-from c = search rules

add-clear-from : tie.Need-overflow_add-pairs
add-clear-from c = search rules

clear-from-requires : tie.Need-clear_from-requires
clear-from-requires c κs = search rules

same_length : tie.Need-shape_of-held
same_length c = search rules

returns : tie.Need-returns
returns c =
    let p = c in
    let n = p in
    let a = n in
    bracket-put a.args.b (6 + 2 * n.pairs_in-pairs.result) a.args.held.now p.put_first.new.held c.clear_from.new.held a.requires.1.frames a.requires.0
    (rw n.pairs_in-pairs.ensures) p.put_first.ensures c.clear_from.ensures

pub put_bracket_spec : {M : Type 1} → statement M
put_bracket_spec =
    tie.close
    (tie.spec
    pairs-in-requires
    put-first-requires
    mul-clear-from
    add-clear-from
    clear-from-requires
    same_length
    returns)
