-- The pieces follow one another; each has room since the whole line has.
use mathlib.Core.Path.{sym}
use mathlib.Core.List.{List, [], ◌∷◌, ◌++◌}
use Prim.Native.Nat.{ℕ}
use native.Mathlib.Omega.{arith}
use lib.ListN.{take, length-append}
use lib.Seq.{length-take-le}
use borrow.Author.Rules.{rules}
use Rattle.text.specs.Digits.{digits}
use Rattle.output_lines.specs.Lines.{counts_text}
use Rattle.output_lines.specs.Writes.{Wrote}
use Rattle.output_lines.proofs.TextLaws.{level-length}
use Rattle.output_lines.proofs.WriteLaws.{wrote_one, wrote_then, wrote-more}
use Rattle.output_lines.proofs.put_level.Statement.{statement}
use Rattle.output_lines.proofs.put_level.Tie as tie

-- what stands in the buffer after each piece
abbrev start1 : tie.After-put_number-colon → tie.Start
start1 c = c.before.before.before.before

abbrev start2 : tie.After-put-next → tie.Start
start2 c = start1 c.before.before.before.before.before.before

abbrev start3 : tie.After-put_counts-end → tie.Start
start3 c = start2 c.before.before.before.before

abbrev text1 : tie.Start → List ℕ
text1 s = digits s.args.halvings

abbrev text2 : tie.Start → List ℕ
text2 s = text1 s ++ (58 ∷ [])

abbrev text3 : tie.Start → List ℕ
text3 s = text2 s ++ counts_text (take 9 s.args.counts.now)

put1 : (c : tie.After-put_number-colon) → Wrote (start1 c).args.at (text1 (start1 c)) (start1 c).args.out.now c.put_number-colon.result c.put_number-colon.new.out
put1 c = wrote_one _ _ _ _ _ c.put_number-colon.ensures

put2 : (c : tie.After-put-next) → Wrote (start2 c).args.at (text2 (start2 c)) (start2 c).args.out.now c.put-next.result c.put-next.new.out
put2 c = wrote_then _ _ _ _ _ _ _ _ (put1 c.before.before.before.before.before.before) c.put-next.ensures

put3 : (c : tie.After-put_counts-end) → Wrote (start3 c).args.at (text3 (start3 c)) (start3 c).args.out.now c.put_counts-end.result c.put_counts-end.new.out
put3 c = wrote-more _ _ _ _ _ _ _ _ (put2 c.before.before.before.before) c.put_counts-end.ensures

put-number-requires : tie.Need-put_number-colon-requires
put-number-requires c κs =
    let s = c in
    omega (arith, s.requires.1, level-length s.args.halvings s.args.counts.now)

put-requires : tie.Need-put-next-requires
put-requires c κs =
    let b = c in
    let s = start1 b.before.before.before.before.before in
    let w = put1 b.before.before.before.before.before in
    omega (arith, s.requires.1, level-length s.args.halvings s.args.counts.now)

slice-aggregate-put-counts : tie.Need-slice_bounds-put_counts-end
slice-aggregate-put-counts c =
    let s = start2 c.before.before.before in
    sym (length-take-le 9 s.args.counts.now s.requires.0)

put-counts-requires : tie.Need-put_counts-end-requires
put-counts-requires c κs =
    let b = c in
    let s = start2 b.before.before.before in
    let w = put2 b.before.before.before in
    omega (arith, s.requires.1, level-length s.args.halvings s.args.counts.now, length-append (text1 s) (58 ∷ []))

put-requires-2 : tie.Need-put-requires
put-requires-2 c κs =
    let b = c in
    let s = start3 b.before.before.before.before.before in
    let w = put3 b.before.before.before.before.before in
    omega (
      arith,
      s.requires.1,
      level-length s.args.halvings s.args.counts.now,
      length-append (text1 s) (58 ∷ []),
      length-append (text2 s) (counts_text (take 9 s.args.counts.now)),
    )

same_length : tie.Need-shape_of-out
same_length c = search rules

returns : tie.Need-returns
returns c = wrote_then _ _ _ _ _ _ _ _ (put3 c.before.before.before.before.before.before.before.before) c.put.ensures

pub put_level_spec : {M : Type 1} → statement M
put_level_spec =
    tie.close
    (tie.spec
    put-number-requires
    put-requires
    slice-aggregate-put-counts
    put-counts-requires
    put-requires-2
    same_length
    returns)
