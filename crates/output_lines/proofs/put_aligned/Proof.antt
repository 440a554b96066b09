-- The offset line is followed by the levels' lines; 949 bytes are enough for all.
use native.Mathlib.Omega.{arith}
use borrow.Author.Rules.{rules}
use mir.Syntax.{w32}
use mir.Val.{SFits}
use Rattle.output_lines.specs.Lines.{offset_text}
use Rattle.output_lines.specs.Writes.{Wrote}
use Rattle.output_lines.proofs.MagnitudeLaws.{read32}
use Rattle.output_lines.proofs.TextLaws.{offset-short, levels-short}
use Rattle.output_lines.proofs.WriteLaws.{wrote-more}
use Rattle.output_lines.proofs.put_aligned.Statement.{statement}
use Rattle.output_lines.proofs.put_aligned.Tie as tie

abbrev start : tie.After-put_offset-at → tie.Start
start c = c.before.before.before.before.before.before

offset-put : (c : tie.After-put_offset-at) → Wrote 0 (offset_text (start c).args.offset.dx (start c).args.offset.dy) (start c).args.out.now c.put_offset-at.result c.put_offset-at.new.out
offset-put c =
    let m = (start c).args.offset in
    let g = c.struct_told-2-1.given in
    let dx : SFits w32 m.dx = record { sfits = g.0.1 } in
    let dy : SFits w32 m.dy = record { sfits = g.1.0.1 } in
    rw (read32 m.dx dx, read32 m.dy dy) at c.put_offset-at.ensures

put-offset-requires : tie.Need-put_offset-at-requires
put-offset-requires c κs = search rules

put-levels-requires : tie.Need-put_levels-requires
put-levels-requires c κs =
    let b = c in
    let s = start b.before.before.before in
    let w = offset-put b.before.before.before in (
      s.requires.1.0,
      omega (
        arith,
        s.requires.0,
        s.requires.1.1,
        offset-short s.args.offset.dx s.args.offset.dy,
        levels-short s.args.s s.args.counts.now (omega (arith, s.requires.0)),
      ),
    )

same_length : tie.Need-shape_of-out
same_length c = search rules

returns : tie.Need-returns
returns c = wrote-more _ _ _ _ _ _ _ _ (offset-put c.before.before.before.before.before.before) c.put_levels.ensures

pub put_aligned_spec : {M : Type 1} → statement M
put_aligned_spec = tie.close (tie.spec put-offset-requires put-levels-requires same_length returns)
