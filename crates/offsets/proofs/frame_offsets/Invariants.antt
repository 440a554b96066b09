-- m is frame k's offset, and the offsets of the frames before it are written.
use Rattle.std.proofs.Common.{◌≡◌}
use Rattle.rules.specs.Frames.{written_over}
use Rattle.rules.specs.Series.{frame_offset, offset_list}
use Rattle.offsets.specs.PairOffsets.{pair_offset}
use Rattle.offsets.proofs.frame_offsets.Given as goal

abbrev pub invariant-loop-k : goal.invariant-loop-k
invariant-loop-k l = record {
  next : l.m ≡ frame_offset (pair_offset l.pairs) l.r l.k;
  written : l.offsets ≡ written_over (offset_list l.k (frame_offset (pair_offset l.pairs) l.r)) l.initial.offsets;
}
