use lib.IntN.{pos}
use lib.ListN.{length-set}
use Rattle.held_writes.proofs.WriteLaws.{small_is, first-put}
use native.Mathlib.Omega.{arith}
use borrow.Author.Rules.{rules}
use Rattle.held_writes.proofs.put_first.Statement.{statement}
use Rattle.held_writes.proofs.put_first.Tie as tie

cast-held : tie.Need-overflow_cast-held
cast-held c = search rules

slice-set-from-held : tie.Need-bounds-held-0
slice-set-from-held c = search rules

cast-held-2 : tie.Need-overflow_cast-held-2
cast-held-2 c = search rules

slice-set-from-held-2 : tie.Need-bounds-held-1
slice-set-from-held-2 c = simp length-set (omega arith)

cast-held-3 : tie.Need-overflow_cast-held-3
cast-held-3 c = search rules

slice-set-from-held-3 : tie.Need-bounds-held-2
slice-set-from-held-3 c = simp length-set (omega arith)

cast-held-4 : tie.Need-overflow_cast-held-4
cast-held-4 c = search rules

slice-set-from-held-4 : tie.Need-bounds-held-3
slice-set-from-held-4 c = simp length-set (omega arith)

cast-held-5 : tie.Need-overflow_cast-held-5
cast-held-5 c = search rules

slice-set-from-held-5 : tie.Need-bounds-held-4
slice-set-from-held-5 c = simp length-set (omega arith)

cast-held-6 : tie.Need-overflow_cast-held-6
cast-held-6 c = search rules

slice-set-from-held-6 : tie.Need-bounds-held-5
slice-set-from-held-6 c = simp length-set (omega arith)

same_length : tie.Need-shape_of-held
same_length c = search rules

returns : tie.Need-returns
returns c =
    let b = c.args.b in
    let ok = c.requires.1 in
    rw (
      small_is b.w (omega (arith, ok.shape.size.width)),
      small_is b.h (omega (arith, ok.shape.size.height)),
      small_is b.s (omega (arith, ok.shape.halvings)),
      small_is b.tolerance (omega (arith, ok.tolerance)),
      small_is b.percentile (omega (arith, ok.percentile.most)),
      small_is b.frames (omega (arith, ok.frames)),
    ) (first-put c.args.held.now (pos b.w) (pos b.h) (pos b.s) (pos b.tolerance) (pos b.percentile) (pos b.frames) (omega arith))

pub put_first_spec : {M : Type 1} → statement M
put_first_spec =
    tie.close
    (tie.spec
    cast-held
    slice-set-from-held
    cast-held-2
    slice-set-from-held-2
    cast-held-3
    slice-set-from-held-3
    cast-held-4
    slice-set-from-held-4
    cast-held-5
    slice-set-from-held-5
    cast-held-6
    slice-set-from-held-6
    same_length
    returns)
