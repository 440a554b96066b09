-- The first y rows of both bitmaps are written, and nothing before place `to` has changed.
use Rattle.std.proofs.Common.{◌+◌, ◌*◌, drop}
use Rattle.rules.specs.Bitmaps.{row_words, word_of}
use Rattle.pack.specs.Outside.{outside_plane}
use Rattle.level_planes.specs.LevelPlanes.{BothAt}
use Rattle.level_planes.proofs.pack_within.Given as goal

abbrev pub invariant-loop-y : goal.invariant-loop-y
invariant-loop-y l =
    BothAt l.to (l.to + row_words l.w * l.h) (row_words l.w) (word_of l.w (outside_plane 0 l.threshold l.w (drop l.from l.grey)))
    (word_of l.w (outside_plane l.lo l.hi l.w (drop l.from l.grey))) l.initial.words l.y l.words
