use mathlib.Core.Path.{refl}
use Rattle.held_writes.proofs.WriteLaws.{pair_put}
use borrow.Author.Rules.{rules}
use Rattle.held_writes.proofs.put_pair.Statement.{statement}
use Rattle.held_writes.proofs.put_pair.Tie as tie

sub-put-offset : tie.Need-slice_bounds-put_offset-count
sub-put-offset c = search rules

part-put-offset-start : tie.Need-slice_bounds-put_offset-start
part-put-offset-start c = search rules

part-put-offset-end : tie.Need-slice_bounds-put_offset-end
part-put-offset-end c = search rules

put-offset-requires : tie.Need-put_offset-requires
put-offset-requires c κs = search rules

same_length : tie.Need-shape_of-held
same_length c = search rules

returns : tie.Need-returns
returns c =
    let a = c in
    pair_put a.args.k a.args.m a.args.held.now _ a.requires.0 a.requires.1 c.put_offset.new.list c.put_offset.ensures refl

pub put_pair_spec : {M : Type 1} → statement M
put_pair_spec =
    tie.close
    (tie.spec
    sub-put-offset
    part-put-offset-start
    part-put-offset-end
    put-offset-requires
    same_length
    returns)
