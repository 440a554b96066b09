-- Bitmaps that are slid along their rows, and the difference count and compared number against them.
use mathlib.Core.Path.{◌≡◌, refl, sym, ap, ap₂, ◌∙◌}
use mathlib.Core.Bool.{Bool, true, false, ◌&&◌, not}
use mathlib.Core.List.{List}
use Prim.Native.Nat.{ℕ, ◌+◌, ◌*◌, ◌/◌, ◌%◌, ◌≤◌, ◌<◌}
use native.Mathlib.Omega.{arith}
use lib.Dec.{ltb, eqb}
use lib.IntN.{ℤ, pos, negsuc, ◌-ℤ◌}
use lib.ListN.{get_or, drop}
use borrow.Author.Tests.{le-ltb}
use Rattle.rules.specs.Sums.{gate, one_if, sum_pixels}
use Rattle.rules.specs.Frames.{Frame}
use Rattle.rules.specs.Planes.{within, shifted}
use Rattle.rules.specs.Bitmaps.{row_words, bit, bit_at}
use Rattle.rules.specs.Differences.{Planes, SamePlanes, differ, keep, with_partner, difference, compared}
use Rattle.rules.specs.declared.Offset.{Offset}
use Rattle.rules.proofs.SumLaws.{gate-small, and-false, pixels-ext}
use Rattle.rules.specs.Buffers.{FrameAt}
use Rattle.rules.proofs.DifferenceLaws.{within-ext, difference-ext, compared-ext}
use Rattle.words.proofs.BitLaws.{bit-lt}
use Rattle.words.proofs.MoveLaws.{within-zero}
use Rattle.word_runs.specs.WordRuns.{Clean}
use Rattle.slide.proofs.SlideLaws.{slid_bitmap, within-here}
use Rattle.slid_counts.specs.SlidPlaces.{first_in, second_in, slid_in, slid, SlidAt, KeptTo, words_count, words_compared}
use Rattle.level_planes.proofs.PlaneLaws.{bits-written, bits-packed, bits-kept}

within-small : (n : ℕ) (z : ℤ) (f : ℕ → ℕ) → ((k : ℕ) → f k < 2) → within n z f < 2
unfolding within
within-small n (pos k) f small = gate-small (ltb k n) (f k) (small k)
within-small n (negsuc k) f small = omega arith

-- A test of the four bits of two pixels that fails where the second is left out: its partner at place z along its row is the pixel above or below it in
-- planes that have place z everywhere.
module _ (test : ℕ → ℕ → ℕ → ℕ → ℕ) (out : (t e : ℕ) → test t e 0 0 ≡ 0) where
  abbrev tested : Planes → Planes → ℕ → ℕ → ℕ → ℕ → ℕ
  tested a b x y x' y' = test (a.threshold x y) (a.exclusion x y) (b.threshold x' y') (b.exclusion x' y')

  module _ (w h : ℕ) (a b : Planes) (x y : ℕ) (down : ℤ) where
    gated : (t : Bool) (k : ℕ) → gate t (within h down (λ v. tested a b x y k v))
        ≡ within h down (λ v. test (a.threshold x y) (a.exclusion x y) (gate t (b.threshold k v)) (gate t (b.exclusion k v)))
    gated true k = refl
    gated false k = sym (ap (λ (n : ℕ). within h down (λ v. n)) (out (a.threshold x y) (a.exclusion x y)) ∙ within-zero h down)

    partner-is : (z : ℤ) → within w z (λ u. within h down (λ v. tested a b x y u v))
        ≡ within h down (λ v. test (a.threshold x y) (a.exclusion x y) (within w z (λ k. b.threshold k v)) (within w z (λ k. b.exclusion k v)))
    unfolding within
    partner-is (pos k) = gated (ltb k w) k
    partner-is (negsuc k) = gated false 0

  -- A sum is one against the slid second frame, moved by whole rows only.
  tests-slid : (w h : ℕ) (dx dy : ℤ) (a b : Planes) → sum_pixels w h (with_partner w h dx dy (tested a b)) ≡ sum_pixels w h (with_partner w h (pos 0) dy (tested a (slid w h dx b)))
  unfolding with_partner shifted
  tests-slid w h dx dy a b =
      pixels-ext w h (with_partner w h dx dy (tested a b)) (with_partner w h (pos 0) dy (tested a (slid w h dx b)))
      (λ x y k l.
      partner-is w h a b x y (pos y -ℤ dy) (pos x -ℤ dx)
      ∙ within-ext h (pos y -ℤ dy)
      (λ v. test (a.threshold x y) (a.exclusion x y) (within w (pos x -ℤ dx) (λ u. b.threshold u v)) (within w (pos x -ℤ dx) (λ u. b.exclusion u v)))
      (λ v. tested a (slid w h dx b) x y x v)
      (λ v m. ap₂ (λ (t e : ℕ). test (a.threshold x y) (a.exclusion x y) t e)
      (sym (λ i. within w (pos x -ℤ dx) (λ u. within-here h v (b.threshold u) m i)))
      (sym (λ i. within w (pos x -ℤ dx) (λ u. within-here h v (b.exclusion u) m i))))
      ∙ sym (within-here w x (λ u. within h (pos y -ℤ dy) (λ v. tested a (slid w h dx b) x y u v)) k))

difference-slid : (w h : ℕ) (dx dy : ℤ) (a b : Planes) → difference w h dx dy a b ≡ difference w h (pos 0) dy a (slid w h dx b)
unfolding difference differ
difference-slid = tests-slid (λ t1 e1 t2 e2. one_if (eqb e1 1 && (eqb e2 1 && not (eqb t1 t2)))) (λ t e. and-false (eqb e 1))

compared-slid : (w h : ℕ) (dx dy : ℤ) (a b : Planes) → compared w h dx dy a b ≡ compared w h (pos 0) dy a (slid w h dx b)
unfolding compared keep
compared-slid = tests-slid (λ t1 e1 t2 e2. one_if (eqb e1 1 && eqb e2 1)) (λ t e. and-false (eqb e 1))

-- a shift sees a plane only inside the frame
shifted-ext : (w h : ℕ) (dx dy : ℤ) (f g : Frame) → ((x y : ℕ) → x < w → y < h → f x y ≡ g x y) → (x y : ℕ) → shifted w h dx dy f x y ≡ shifted w h dx dy g x y
unfolding shifted
shifted-ext w h dx dy f g e x y =
    within-ext w (pos x -ℤ dx) (λ u. within h (pos y -ℤ dy) (λ v. f u v)) (λ u. within h (pos y -ℤ dy) (λ v. g u v))
    (λ u k. within-ext h (pos y -ℤ dy) (λ v. f u v) (λ v. g u v) (λ v l. e u v k l))

bit_at-small : (w h : ℕ) (words : List ℕ) (x y : ℕ) → bit_at w h words x y < 2
unfolding bit_at
bit_at-small w h words x y = gate-small (ltb x w && ltb y h) (bit (get_or words (y * row_words w + x / 64) 0) (x % 64)) (bit-lt (get_or words (y * row_words w + x / 64) 0) (x % 64))

-- One bitmap slid within the words.
module _ (w h : ℕ) (dx : ℤ) (from to : ℕ) (before after : List ℕ) (apart : from + row_words w * h ≤ to)
    (moved : FrameAt to (row_words w) (slid_bitmap w h dx (drop from before)) before h after) where
  small : (x y : ℕ) → shifted w h dx (pos 0) (bit_at w h (drop from before)) x y < 2
  unfolding shifted
  small x y = within-small w (pos x -ℤ dx) (λ u. within h (pos y -ℤ pos 0) (λ v. bit_at w h (drop from before) u v))
      (λ u. within-small h (pos y -ℤ pos 0) (λ v. bit_at w h (drop from before) u v) (λ v. bit_at-small w h (drop from before) u v))

  -- its bits, while only places after it are written
  slid-bits : (end : List ℕ) → ((m : ℕ) → m < to + row_words w * h → get_or end m 0 ≡ get_or after m 0)
      → (x y : ℕ) → x < w → y < h → bit_at w h (drop to end) x y ≡ shifted w h dx (pos 0) (bit_at w h (drop from end)) x y
  slid-bits end same x y k l =
      bits-kept w h to after end same x y k l
      ∙ bits-packed w h to (shifted w h dx (pos 0) (bit_at w h (drop from before))) after small moved.done x y k l
      ∙ shifted-ext w h dx (pos 0) (bit_at w h (drop from before)) (bit_at w h (drop from end))
      (λ u v i j. sym (bits-kept w h from before end (λ m n. same m (omega arith) ∙ moved.under m (omega arith)) u v i j)) x y

  slid-clean : Clean w h (drop to after)
  slid-clean = record {
    past = λ x y past inside l.
        bits-written w h to (shifted w h dx (pos 0) (bit_at w h (drop from before))) after small moved.done x y inside l
        ∙ ap (λ (t : Bool). gate t (shifted w h dx (pos 0) (bit_at w h (drop from before)) x y)) (le-ltb x w past);
  }

-- Both bitmaps of the second frame slid, one after the other.
module _ (w h : ℕ) (dx : ℤ) (before mid after : List ℕ)
    (thresholds : FrameAt (4 * (row_words w * h)) (row_words w) (slid_bitmap w h dx (drop (2 * (row_words w * h)) before)) before h mid)
    (exclusions : FrameAt (5 * (row_words w * h)) (row_words w) (slid_bitmap w h dx (drop (3 * (row_words w * h)) mid)) mid h after) where
  both-kept : KeptTo (4 * (row_words w * h)) before after
  both-kept = record { len = exclusions.len ∙ thresholds.len; under = λ m l. exclusions.under m (omega arith) ∙ thresholds.under m l }

  both-slid : SlidAt w h dx after
  both-slid = record {
    planes = record {
      thresholds = slid-bits w h dx (2 * (row_words w * h)) (4 * (row_words w * h)) before mid (omega arith) thresholds after (λ m l. exclusions.under m (omega arith));
      exclusions = slid-bits w h dx (3 * (row_words w * h)) (5 * (row_words w * h)) mid after (omega arith) exclusions after (λ m l. refl);
    };
    clean = slid-clean w h dx (3 * (row_words w * h)) (5 * (row_words w * h)) mid after (omega arith) exclusions;
  }

-- The same with a bitmap's size and the move as the code has them.
pub slid-second : (w h n : ℕ) (d dx : ℤ) (before mid after : List ℕ) → n ≡ row_words w * h → d ≡ dx
    → FrameAt (4 * n) (row_words w) (slid_bitmap w h d (drop (2 * n) before)) before h mid
    → FrameAt (5 * n) (row_words w) (slid_bitmap w h d (drop (3 * n) mid)) mid h after
    → KeptTo (4 * (row_words w * h)) before after × SlidAt w h dx after
slid-second w h n d dx before mid after size move one two =
    let thresholds = rw (size, move) at one in
    let exclusions = rw (size, move) at two in
    (both-kept w h dx before mid after thresholds exclusions, both-slid w h dx before mid after thresholds exclusions)

-- The two numbers against the slid frame, at an offset with the slide's dx.
module _ (w h : ℕ) (words : List ℕ) (m : Offset) (s : SlidAt w h m.dx words) where
  same : SamePlanes w h (first_in w h words) (first_in w h words)
  same = record { thresholds = λ x y k l. refl; exclusions = λ x y k l. refl }

  pub slid-count : difference w h (pos 0) m.dy (first_in w h words) (slid_in w h words) ≡ words_count w h words m
  unfolding words_count
  slid-count =
      difference-ext w h (pos 0) m.dy (first_in w h words) (first_in w h words) (slid_in w h words) (slid w h m.dx (second_in w h words)) same s.planes
      ∙ sym (difference-slid w h m.dx m.dy (first_in w h words) (second_in w h words))

  pub slid-compared : compared w h (pos 0) m.dy (first_in w h words) (slid_in w h words) ≡ words_compared w h words m
  unfolding words_compared
  slid-compared =
      compared-ext w h (pos 0) m.dy (first_in w h words) (first_in w h words) (slid_in w h words) (slid w h m.dx (second_in w h words)) same s.planes
      ∙ sym (compared-slid w h m.dx m.dy (first_in w h words) (second_in w h words))

-- They see only the four bitmaps.
module _ (w h : ℕ) (before after : List ℕ) (kept : KeptTo (4 * (row_words w * h)) before after) where
  bitmap : (to : ℕ) → to ≤ 3 * (row_words w * h) → (x y : ℕ) → x < w → y < h → bit_at w h (drop to after) x y ≡ bit_at w h (drop to before) x y
  bitmap to l = bits-kept w h to before after (λ k i. kept.under k (omega arith))

  first-kept : SamePlanes w h (first_in w h after) (first_in w h before)
  first-kept = record { thresholds = bitmap 0 (omega arith); exclusions = bitmap (row_words w * h) (omega arith) }

  second-kept : SamePlanes w h (second_in w h after) (second_in w h before)
  second-kept = record { thresholds = bitmap (2 * (row_words w * h)) (omega arith); exclusions = bitmap (3 * (row_words w * h)) (omega arith) }

  pub count_kept : (m : Offset) → words_count w h after m ≡ words_count w h before m
  unfolding words_count
  count_kept m =
      difference-ext w h m.dx m.dy (first_in w h after) (first_in w h before) (second_in w h after) (second_in w h before) first-kept second-kept

  pub compared-kept : (m : Offset) → words_compared w h after m ≡ words_compared w h before m
  unfolding words_compared
  compared-kept m =
      compared-ext w h m.dx m.dy (first_in w h after) (first_in w h before) (second_in w h after) (second_in w h before) first-kept second-kept
