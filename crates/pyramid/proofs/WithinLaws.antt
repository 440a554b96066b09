-- Laws of a frame and its half in one memory, which is cut where the half begins.
use mathlib.Core.Path.{◌≡◌, ◌∙◌}
use mathlib.Core.List.{List, ◌++◌}
use Prim.Native.Nat.{ℕ, ◌+◌, ◌*◌, ◌-◌, ◌/◌, ◌≤◌, ◌<◌}
use native.Mathlib.Nat.{zero-add}
use native.Mathlib.Omega.{arith}
use lib.ListN.{length, get_or, take, drop}
use lib.Seq.{get_or-drop}
use borrow.Author.Rules.{rules}
use Rattle.std.proofs.lemmas.List.{places}
use Rattle.rules.specs.Frames.{frame_of}
use Rattle.rules.specs.Greys.{halved}
use Rattle.rules.specs.Buffers.{FrameAt}
use Rattle.half_block.proofs.HalfLaws.{rows_fit}

-- The half of a frame reads the frame's own bytes alone.
halved-cut : (g : List ℕ) (from w h to x y : ℕ) → from + w * h ≤ to → x < w / 2 → y < h / 2
    → halved (frame_of w (drop from (take to g))) x y ≡ halved (frame_of w (drop from g)) x y
unfolding halved frame_of
halved-cut g from w h to x y room k l =
    let fits = rows_fit w h y l in
    rw (
      byte (2 * y * w + 2 * x) (omega arith),
      byte (2 * y * w + (2 * x + 1)) (omega arith),
      byte ((2 * y + 1) * w + 2 * x) (omega arith),
      byte ((2 * y + 1) * w + (2 * x + 1)) (omega arith),
    )
  where
    byte : (m : ℕ) → m < w * h → get_or (drop from (take to g)) m 0 ≡ get_or (drop from g) m 0
    byte m i = search (rules, places)

-- what lies below the cut
below-cut : (g below : List ℕ) (to j : ℕ) → to ≤ length g → get_or (take to g ++ below) (to + j) 0 ≡ get_or below j 0
below-cut g below to j fits = search (rules, places)

-- A half that is written to what lies below the cut lies in the whole memory from the cut on.
pub half-below : (g below : List ℕ) (from w h to : ℕ) → from + w * h ≤ to → to ≤ length g
    → FrameAt 0 (w / 2) (halved (frame_of w (drop from (take to g)))) (drop to g) (h / 2) below
    → FrameAt to (w / 2) (halved (frame_of w (drop from g))) g (h / 2) (take to g ++ below)
half-below g below from w h to room fits half = record {
  len = search (rules, places, half.len);
  under = λ m l. search (rules, places);
  done = λ x z k l. below-cut g below to (z * (w / 2) + x) fits ∙ rw zero-add at (half.done x z k l) ∙ halved-cut g from w h to x z room k l;
  over = λ m l. past m (m - to) l (omega arith);
}
  where
    past : (m j : ℕ) → to + h / 2 * (w / 2) ≤ m → to + j ≡ m → get_or (take to g ++ below) m 0 ≡ get_or g m 0
    past m j l e = rw (← e) (below-cut g below to j fits ∙ half.over j (omega arith) ∙ get_or-drop to g j 0)
