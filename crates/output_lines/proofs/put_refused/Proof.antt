-- The pieces follow one another; 19 bytes are enough for all.
use mathlib.Core.List.{[], ◌∷◌, ◌++◌}
use native.Mathlib.Omega.{arith}
use borrow.Author.Rules.{rules}
use Rattle.text.specs.Digits.{digits}
use Rattle.text.proofs.DigitLaws.{digits-at-most-ten}
use Rattle.output_lines.specs.Writes.{Wrote}
use Rattle.output_lines.proofs.WriteLaws.{wrote_one, wrote_then}
use Rattle.output_lines.proofs.put_refused.Statement.{statement}
use Rattle.output_lines.proofs.put_refused.Tie as tie

-- what stands in the buffer after the first piece, and after the number
begun : (c : tie.After-put-at) → Wrote 0 (114 ∷ 101 ∷ 102 ∷ 117 ∷ 115 ∷ 101 ∷ 100 ∷ 32 ∷ []) c.args.out.now c.put-at.result c.put-at.new.out
begun c = wrote_one 0 _ _ _ _ c.put-at.ensures

numbered : (c : tie.After-put_number-end) → Wrote 0 ((114 ∷ 101 ∷ 102 ∷ 117 ∷ 115 ∷ 101 ∷ 100 ∷ 32 ∷ []) ++ digits
    c.args.n) c.args.out.now
    c.put_number-end.result c.put_number-end.new.out
numbered c = wrote_then 0 _ _ _ _ _ _ _ (begun c.before.before.before.before) c.put_number-end.ensures

put-requires : tie.Need-put-at-requires
put-requires c κs = search rules

put-number-requires : tie.Need-put_number-end-requires
put-number-requires c κs =
    let w = begun c.before.before.before in
    omega (arith, digits-at-most-ten c.args.n)

put-requires-2 : tie.Need-put-requires
put-requires-2 c κs =
    let w = numbered c.before.before.before.before.before in
    omega (arith, digits-at-most-ten c.args.n)

same_length : tie.Need-shape_of-out
same_length c = search rules

returns : tie.Need-returns
returns c = wrote_then 0 _ _ _ _ _ _ _ (numbered c.before.before.before.before.before.before.before.before) c.put.ensures

pub put_refused_spec : {M : Type 1} → statement M
put_refused_spec =
    tie.close
    (tie.spec
    put-requires
    put-number-requires
    put-requires-2
    same_length
    returns)
