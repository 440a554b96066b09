-- The pairs after the oldest one are moved, and the bracket is written with a frame less.
use Rattle.std.proofs.Common.{arith}
use Rattle.live.proofs.LimitLaws.{holding-ok}
use Rattle.live_drop.proofs.ShrinkLaws.{frames-read, limits-read, shrunk-is}
use Rattle.live_drop.proofs.shrink.Goals as goal

pub overflow_sub-left : goal.overflow_sub-left
overflow_sub-left c =
    let some = frames-read c.args.held.now c.bracket_of-bracket.result c.bracket_of-bracket.ensures c.requires.bracket_ok.1 in
    omega arith

pub drop_pair-requires-clause-n_bound : goal.drop_pair-requires-clause-n_bound
drop_pair-requires-clause-n_bound c =
    let few = (limits-read c.args.held.now c.bracket_of-bracket.result c.bracket_of-bracket.ensures c.requires.bracket_ok.0).frames in
    omega arith

pub put_bracket-requires-clause-held_len : goal.put_bracket-requires-clause-held_len
put_bracket-requires-clause-held_len c = let size = c.drop_pair.ensures.len in omega arith

pub put_bracket-requires-clause-bracket_ok : goal.put_bracket-requires-clause-bracket_ok
put_bracket-requires-clause-bracket_ok c =
    let ok = limits-read c.args.held.now c.bracket_of-bracket.result c.bracket_of-bracket.ensures c.requires.bracket_ok.0 in
    holding-ok c.bracket_of-bracket.result _ (omega (arith, ok.frames)) ok

pub returns : goal.returns
returns c =
    shrunk-is c.args.held.now c.bracket_of-bracket.result c.bracket_of-bracket.ensures c.pairs_in-pairs.result c.drop_pair.new.held c.put_bracket.new.held
    c.pairs_in-pairs.ensures c.drop_pair.ensures c.put_bracket.ensures
