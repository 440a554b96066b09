-- The pieces follow one another; 31 bytes are enough for all.
use mathlib.Core.List.{List, [], ◌∷◌, ◌++◌}
use Prim.Native.Nat.{ℕ, ◌≤◌}
use native.Mathlib.Omega.{arith}
use lib.ListN.{length, length-append}
use mir.Syntax.{w32}
use mir.Val.{to_z, of_z}
use borrow.Author.Rules.{rules}
use Rattle.output_lines.specs.Lines.{signed}
use Rattle.output_lines.specs.Writes.{Wrote}
use Rattle.output_lines.proofs.MagnitudeLaws.{read32}
use Rattle.output_lines.proofs.TextLaws.{signed-short}
use Rattle.output_lines.proofs.WriteLaws.{wrote_one, wrote_then, wrote-more}
use Rattle.output_lines.proofs.put_offset.Statement.{statement}
use Rattle.output_lines.proofs.put_offset.Tie as tie

-- what stands in the buffer after each piece
abbrev start1 : tie.After-put-at → tie.Start
start1 c = c.before.before.before.before.before

abbrev start2 : tie.After-put_signed-gap → tie.Start
start2 c = start1 c.before.before.before.before

abbrev start3 : tie.After-put-next → tie.Start
start3 c = start2 c.before.before.before.before.before.before

abbrev start4 : tie.After-put_signed-end → tie.Start
start4 c = start3 c.before.before.before.before

abbrev text1 : List ℕ
text1 = 111 ∷ 102 ∷ 102 ∷ 115 ∷ 101 ∷ 116 ∷ 32 ∷ []

abbrev text2 : tie.Start → List ℕ
text2 s = text1 ++ signed s.args.dx

abbrev text3 : tie.Start → List ℕ
text3 s = text2 s ++ (32 ∷ [])

abbrev text4 : tie.Start → List ℕ
text4 s = text3 s ++ signed s.args.dy

put1 : (c : tie.After-put-at) → Wrote 0 text1 (start1 c).args.out.now c.put-at.result c.put-at.new.out
put1 c = wrote_one _ _ _ _ _ c.put-at.ensures

put2 : (c : tie.After-put_signed-gap) → Wrote 0 (text2 (start2 c)) (start2 c).args.out.now c.put_signed-gap.result c.put_signed-gap.new.out
put2 c =
    let s = start2 c in
    wrote-more _ _ _ _ _ _ _ _ (put1 c.before.before.before.before) (rw (read32 s.args.dx s.ranges.dx) at c.put_signed-gap.ensures)

put3 : (c : tie.After-put-next) → Wrote 0 (text3 (start3 c)) (start3 c).args.out.now c.put-next.result c.put-next.new.out
put3 c = wrote_then _ _ _ _ _ _ _ _ (put2 c.before.before.before.before.before.before) c.put-next.ensures

put4 : (c : tie.After-put_signed-end) → Wrote 0 (text4 (start4 c)) (start4 c).args.out.now c.put_signed-end.result c.put_signed-end.new.out
put4 c =
    let s = start4 c in
    wrote-more _ _ _ _ _ _ _ _ (put3 c.before.before.before.before) (rw (read32 s.args.dy s.ranges.dy) at c.put_signed-end.ensures)

short2 : (s : tie.Start) → length (text2 s) ≤ 18
short2 s = simp length-append (omega (arith, signed-short s.args.dx))

short4 : (s : tie.Start) → length (text4 s) ≤ 30
short4 s = simp length-append (omega (arith, signed-short s.args.dx, signed-short s.args.dy))

put-requires : tie.Need-put-at-requires
put-requires c κs = search rules

put-signed-requires : tie.Need-put_signed-gap-requires
put-signed-requires c κs =
    let w = put1 c.before.before.before in
    omega (arith, signed-short (to_z w32 (of_z w32 (start1 c.before.before.before).args.dx)))

put-requires-2 : tie.Need-put-next-requires
put-requires-2 c κs =
    let b = c in
    let w = put2 b.before.before.before.before.before in
    omega (arith, short2 (start2 b.before.before.before.before.before))

put-signed-requires-2 : tie.Need-put_signed-end-requires
put-signed-requires-2 c κs =
    let b = c in
    let w = put3 b.before.before.before in
    omega (arith, length-append (text2 (start3 b.before.before.before)) (32 ∷ []), short2 (start3 b.before.before.before), signed-short (to_z w32 (of_z w32 (start3 b.before.before.before).args.dy)))

put-requires-3 : tie.Need-put-requires
put-requires-3 c κs =
    let b = c in
    let w = put4 b.before.before.before.before.before in
    omega (arith, (start4 b.before.before.before.before.before).requires, short4 (start4 b.before.before.before.before.before))

same_length : tie.Need-shape_of-out
same_length c = search rules

returns : tie.Need-returns
returns c = wrote_then _ _ _ _ _ _ _ _ (put4 c.before.before.before.before.before.before.before.before) c.put.ensures

pub put_offset_spec : {M : Type 1} → statement M
put_offset_spec =
    tie.close
    (tie.spec
    put-requires
    put-signed-requires
    put-requires-2
    put-signed-requires-2
    put-requires-3
    same_length
    returns)
