-- Demand 3 of the definitions, whole.
use mathlib.Core.Path.{◌≡◌, refl}
use mathlib.Core.List.{List}
use Prim.Native.Nat.{ℕ, suc, ◌+◌, ◌*◌, ◌-◌, ◌^◌, ◌≤◌, ◌<◌}
use native.Mathlib.Omega.{arith}
use lib.ListN.{get_or, drop}
use lib.Seq.{get_or-drop}
use Rattle.rules.specs.Frames.{Frame}
use Rattle.rules.specs.Greys.{grey, grey_frame}
use Rattle.rules.specs.Planes.{distance}
use Rattle.rules.specs.declared.Offset.{Offset}
use Rattle.rules.specs.Levels.{arranged, ExclusionRule, pair, Near, Every}
use Rattle.rules.specs.Series.{Settings, grey_of, pair_of, frame_offset, answer_of, answer_by}
use Rattle.reexposure.specs.Reexposure.{SameOrder, Reexposed, Bytes, Sound, Bounded, EachByOrder, GreyBytes, PairAlike, Demand3}
use Rattle.reexposure.proofs.Links.{Link, Linked}
use Rattle.reexposure.proofs.SamePairs.{linked-kept, answer-ext}
use Rattle.rules.proofs.PairLaws.{pair-by}
use Rattle.rules.proofs.OffsetLaws.{near-pair, near-arranged, near-frame, offset_at}

-- grey values that some pixel has in the one frame and in the other
record Seen (w h : ℕ) (f f' : Frame) (v v' : ℕ) : Type 0 where
  x : ℕ
  y : ℕ
  inside-x : x < w
  inside-y : y < h
  here : f x y ≡ v
  there : f' x y ≡ v'

seen-link : (w h : ℕ) (f f' : Frame) → GreyBytes w h f → GreyBytes w h f' → SameOrder w h f f' → Link (Seen w h f f')
seen-link w h f f' greys greys' alike = record {
  alike = λ v v' u u' p q.
      rw (← p.here, ← p.there, ← q.here, ← q.there) (alike p.x p.y q.x q.y p.inside-x p.inside-y q.inside-x q.inside-y);
  low = λ v v' p. rw (← p.here) (greys p.x p.y p.inside-x p.inside-y);
  low' = λ v v' p. rw (← p.there) (greys' p.x p.y p.inside-x p.inside-y);
}

seen : (w h : ℕ) (f f' : Frame) → Linked (Seen w h f f') w h f f'
seen w h f f' x y l m = record { x = x; y = y; inside-x = l; inside-y = m; here = refl; there = refl }

-- one pair
pub same-pair : PairAlike
same-pair order rule p s w h fair some most a a' b b' grey_a grey_a' grey_b grey_b' alike_a alike_b =
    let kept = linked-kept rule p fair some most in
    pair-by order rule p (Linked (Seen w h a a')) (Linked (Seen w h b b'))
    (kept (Seen w h a a') (seen-link w h a a' grey_a grey_a' alike_a)) (kept (Seen w h b b') (seen-link w h b b' grey_b grey_b' alike_b))
    s w h a a' b b' (seen w h a a') (seen w h b b')

grey-low : (r g b : ℕ) → r < 256 → g < 256 → b < 256 → grey r g b ≤ 255
unfolding grey
grey-low r g b k l m = omega arith

-- a raster of bytes has grey values of bytes
pub grey-byte : (w : ℕ) (raster : List ℕ) → Bytes raster → (x y : ℕ) → grey_frame w raster x y ≤ 255
unfolding grey_frame
grey-byte w raster bytes x y =
    let at = 3 * (y * w + x) in
    grey-low (get_or raster at 0) (get_or raster (at + 1) 0) (get_or raster (at + 2) 0) (bytes at) (bytes (at + 1)) (bytes (at + 2))

low : (S : Settings) (F : List ℕ) → Bytes F → (k x y : ℕ) → grey_of S F k x y ≤ 255
unfolding grey_of
low S F bytes k = grey-byte S.w (drop n F) (λ i. rw (get_or-drop n F i 0) (bytes (n + i)))
  where
    n : ℕ
    n = k * (3 * (S.w * S.h))

-- every re-exposed series has the same answer
pub same_answer : (order : List Offset) (exclusion : ExclusionRule) (S : Settings) (F F' : List ℕ) → Sound S
    → EachByOrder exclusion S → Bytes F → Bytes F' → Reexposed S F F'
    → answer_by order exclusion S F ≡ answer_by order exclusion S F'
unfolding answer_by pair_of
same_answer order exclusion S F F' sound fair bytes bytes' alike =
    answer-ext S.frames S.reference
    (pair_of (λ p. pair order exclusion p S.halvings S.w S.h) S.percentiles (grey_of S F))
    (pair_of (λ p. pair order exclusion p S.halvings S.w S.h) S.percentiles (grey_of S F'))
    sound.reference
    (λ k l.
    let p : ℕ = get_or S.percentiles k 0 in
    let fits = sound.percentile k (omega arith) in
    same-pair order exclusion p S.halvings S.w S.h (fair k (omega arith)) fits.0 fits.1
    (grey_of S F k) (grey_of S F' k) (grey_of S F (k + 1)) (grey_of S F' (k + 1))
    (λ x y l m. low S F bytes k x y) (λ x y l m. low S F' bytes' k x y) (λ x y l m. low S F bytes (k + 1) x y) (λ x y l m. low S F' bytes' (k + 1) x y)
    (alike.alike k (omega arith)) (alike.alike (k + 1) (omega arith)))

-- every answer is bounded
pub bounded : (order : List Offset) → Every (Near 1) order → (exclusion : ExclusionRule) (S : Settings) (F : List ℕ) → S.reference < S.frames
    → Bounded S (answer_by order exclusion S F)
unfolding answer_by answer_of pair_of
bounded order steps exclusion S F reference = record {
  dx = λ k l. rw (offset_at S.frames offset k l).0 (near k l).dx;
  dy = λ k l. rw (offset_at S.frames offset k l).1 (near k l).dy;
}
  where
    d : ℕ → Offset
    d j = (pair_of (λ p. pair order exclusion p S.halvings S.w S.h) S.percentiles (grey_of S F) j).offset

    offset : ℕ → Offset
    offset = frame_offset d S.reference

    near : (k : ℕ) → k < S.frames → Near (distance k S.reference * (2 ^ suc S.halvings - 1)) (offset k)
    near k l =
        near-frame (2 ^ suc S.halvings - 1) d (S.frames - 1) S.reference k (omega arith) (omega arith)
        (λ j i. near-pair order steps exclusion (get_or S.percentiles j 0) S.halvings S.w S.h (grey_of S F j) (grey_of S F (j + 1)))

-- THE THEOREM (its statement is `Demand3` in specs/Reexposure.antt).
pub demand3 : Demand3
demand3 places arrangement rule S F F' sound by_order bytes bytes' alike = record {
  same = same_answer (arranged places) rule S F F' sound by_order bytes bytes' alike;
  bound = bounded (arranged places) (near-arranged places) rule S F sound.reference;
  bound' = bounded (arranged places) (near-arranged places) rule S F' sound.reference;
}
