-- The levels' text is the first line and then that of the rest.
use mathlib.Core.Path.{ap, ◌∙◌}
use Prim.Native.Nat.{◌-◌}
use native.Mathlib.Omega.{arith}
use lib.ListN.{length, drop, length-append, length-drop}
use Rattle.output_lines.specs.Lines.{level_text, levels_text}
use Rattle.output_lines.proofs.TextLaws.{levels-one, levels-more, levels-room, rest-room}
use Rattle.output_lines.proofs.WriteLaws.{wrote-more, rest-lent}
use Rattle.output_lines.proofs.+put_levels.Goals as goal

pub put_level-next-requires : goal.put_level-next-requires
put_level-next-requires t c =
    let r = levels-room c.args.s c.args.counts.now in
    record { in_bounds = omega (arith, c.requires.s_in_bounds); counts_in_bounds = omega (arith, c.requires.counts_in_bounds) }

pub returns-then-s-eq0 : goal.returns-then-s-eq0
returns-then-s-eq0 t c = rw (levels-one c.args.s c.args.counts.now c.if-s-eq0.true) c.put_level-next.ensures

pub put_levels-requires : goal.put_levels-requires
put_levels-requires t c =
    let a = c.args in
    let left = c.if-s-eq0.false in
    let w = c.put_level-next.ensures in
    let d = length-drop 9 a.counts.now in
    let e = ap length (levels-more a.s a.counts.now left) ∙ length-append (level_text a.s a.counts.now) (levels_text (a.s - 1) (drop 9 a.counts.now)) in (
      omega arith,
      rest-room c.put_level-next.result (a.s - 1) a.counts.now _ (omega (arith, c.requires.s_in_bounds, left)) (omega (arith, c.requires.counts_in_bounds)),
    )

-- the lines after the first are those of the counts after its nine
pub returns : goal.returns
returns t c =
    let a = c.args in
    let first = c.put_level-next in
    let rest = rest-lent first.result (a.s - 1) a.counts.now first.new.out c.put_levels.result c.put_levels.new.out c.put_levels.ensures in
    rw (levels-more a.s a.counts.now c.if-s-eq0.false) (wrote-more _ _ _ _ _ _ _ _ first.ensures rest)
