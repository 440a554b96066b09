-- The blank that is looked for begins where the turn stands, and ends in the bytes.
use Rattle.std.proofs.Common.{drop, ◌∙◌, arith}
use Rattle.std.proofs.lemmas.List.{drop-drop}
use Rattle.p6_whitespace.proofs.BlankLaws.{blank_at, whitespace-on, whitespace-off}
use Rattle.p6_whitespace.proofs.whitespace_length.Goals as goal

pub returns-then-blank-eq0 : goal.returns-then-blank-eq0
returns-then-blank-eq0 c =
    let l = c.loop-n in
    let f = blank_at c.args.bytes.now l.n _ l.invariant.in_bytes c.blank_length-blank.ensures in
    omega (arith, whitespace-off (drop l.n c.args.bytes.now) (f.is ∙ c.if-blank-eq0.true))

pub overflow_add-n : goal.overflow_add-n
overflow_add-n c = omega (arith, blank_at c.args.bytes.now _ _ c.loop-n.invariant.in_bytes c.blank_length-blank.ensures)

pub loop-n-smaller : goal.loop-n-smaller
loop-n-smaller c = omega (arith, blank_at c.args.bytes.now _ _ c.loop-n.invariant.in_bytes c.blank_length-blank.ensures)

pub loop-n-preserved : goal.loop-n-preserved
loop-n-preserved c =
    let l = c.loop-n in
    let bytes = c.args.bytes.now in
    let blank = c.blank_length-blank.result in
    let f = blank_at bytes l.n _ l.invariant.in_bytes c.blank_length-blank.ensures in
    let e = whitespace-on (drop l.n bytes) blank f.is (omega arith) in
    record { in_bytes = f.within; split = l.invariant.split ∙ rw (e, drop-drop blank l.n bytes) (omega arith) }
