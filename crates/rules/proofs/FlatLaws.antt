-- Flat frames: every pixel is left out, so every count and every compared number is 0.
use mathlib.Core.Path.{◌≡◌, refl, sym, ap, ap₂, subst, fun_ext, ◌∙◌}
use mathlib.Core.Bool.{true, false}
use mathlib.Core.List.{List, ◌∷◌, ◌++◌, map}
use Prim.Native.Nat.{ℕ, zero, suc, ◌+◌, ◌*◌, ◌-◌, ◌/◌, ◌^◌, ◌≤◌, ◌<◌, min, max}
use native.Mathlib.Nat.{mul-pos, mul_comm, mul-le-mul_right}
use native.Mathlib.Omega.{arith}
use lib.Dec.{leb, ltb}
use lib.IntN.{ℤ, pos, negsuc, ◌-ℤ◌}
use lib.ListN.{get_or}
use borrow.Author.Tests.{le-leb, lt-leb, le-ltb}
use Rattle.rules.specs.Limits.{max_grey}
use Rattle.rules.specs.Sums.{gate, one_if, sum_pixels}
use Rattle.rules.specs.Frames.{Frame}
use Rattle.rules.specs.Greys.{halved}
use Rattle.rules.specs.Thresholds.{at_most, reaches, threshold}
use Rattle.rules.specs.Planes.{distance, exclusion_bit, within}
use Rattle.rules.specs.Differences.{Planes, differ, keep, with_partner, difference, compared}
use Rattle.rules.specs.declared.Offset.{Offset}
use Rattle.rules.specs.Levels.{Aligned, still, added, ward_order, arranged, Arrangement, by_tolerance, planes_by, level, count_at, compared_at, pair}
use Rattle.rules.specs.BlankSky.{Equal}
use Rattle.rules.specs.FlatFrames.{flat, zeros, blank}
use Rattle.rules.proofs.SumLaws.{gate-zero, pixels-zero, pixels-all}
use Rattle.rules.proofs.ThresholdLaws.{least-is}
use Rattle.rules.proofs.GreyLaws.{second-formula}
use Rattle.rules.proofs.SkyLaws.{times_step, first_step, equal-counts}

within-zero : (n : ℕ) (z : ℤ) (f : ℕ → ℕ) → ((k : ℕ) → f k ≡ 0) → within n z f ≡ 0
unfolding within
within-zero n (pos k) f e = ap (gate (ltb k n)) (e k) ∙ gate-zero (ltb k n)
within-zero n (negsuc k) f e = refl

flat-halved : (v : ℕ) → halved (flat v) ≡ flat v
unfolding halved
flat-halved v = fun_ext (λ x. fun_ext (λ y. second-formula v v v v ∙ omega arith))

-- no darker value reaches the percentile, and the frame's own does
flat-threshold : (w h percentile v : ℕ) → 0 < w → 0 < h → 1 ≤ percentile → percentile ≤ 99 → v ≤ max_grey → threshold w h percentile (flat v) ≡ v
unfolding threshold reaches at_most
flat-threshold w h percentile v wide high some most l = sym (least-is max_grey v (reaches w h percentile (flat v)) l fail pass)
  where
    pixels : 0 < w * h
    pixels = mul-pos wide high

    fail : (u : ℕ) → u < v → reaches w h percentile (flat v) u ≡ false
    fail u k =
        let a : at_most w h (flat v) u ≡ 0 = pixels-zero w h (λ x y. one_if (leb v u)) (λ x y i j. ap one_if (lt-leb v u k)) in
        let b : 0 < percentile * (w * h) = mul-pos some pixels in
        lt-leb (percentile * (w * h)) (100 * at_most w h (flat v) u) (omega arith)

    pass : v < max_grey → reaches w h percentile (flat v) v ≡ true
    pass k =
        let a : at_most w h (flat v) v ≡ h * w = pixels-all w h (λ x y. one_if (leb v v)) (λ x y i j. ap one_if (le-leb v v (omega arith))) in
        let b : percentile * (w * h) ≤ 100 * (w * h) = mul-le-mul_right {m = percentile} {n = 100} (w * h) (omega arith) in
        let c = mul_comm w h in
        le-leb (percentile * (w * h)) (100 * at_most w h (flat v) v) (omega arith)

-- a pixel at its frame's threshold is compared with none
module _ (tolerance percentile w h v : ℕ) (some : 1 ≤ percentile) (most : percentile ≤ 99) (byte : v ≤ max_grey) where
  abbrev planes : Planes
  planes = planes_by (by_tolerance tolerance) percentile w h (flat v)

  left_out : (x y : ℕ) → x < w → y < h → planes.exclusion x y ≡ 0
  unfolding planes_by exclusion_bit distance
  left_out x y k l =
      let t : threshold w h percentile (flat v) ≡ v = flat-threshold w h percentile v (omega arith) (omega arith) some most byte in
      rw t (ap one_if (le-ltb tolerance (max v v - min v v) (omega arith)))

  none_kept : (dx dy : ℤ) (test : ℕ → ℕ → ℕ → ℕ → ℕ) → ((x y u z : ℕ) → x < w → y < h → test x y u z ≡ 0) → sum_pixels w h (with_partner w h dx dy test) ≡ 0
  unfolding with_partner
  none_kept dx dy test none =
      pixels-zero w h (with_partner w h dx dy test)
      (λ x y k l. within-zero w (pos x -ℤ dx) (λ u. within h (pos y -ℤ dy) (λ z. test x y u z)) (λ u. within-zero h (pos y -ℤ dy) (λ z. test x y u z) (λ z. none x y u z k l)))

  no-count : count_at (by_tolerance tolerance) percentile w h (flat v) (flat v) ≡ (λ m. 0)
  unfolding count_at difference differ
  no-count = fun_ext (λ m. none_kept m.dx m.dy (differ planes planes) (λ x y u z k l. rw (left_out x y k l) refl))

  none-compared : compared_at (by_tolerance tolerance) percentile w h (flat v) (flat v) ≡ (λ m. 0)
  unfolding compared_at compared keep
  none-compared = fun_ext (λ m. none_kept m.dx m.dy (keep planes planes) (λ x y u z k l. rw (left_out x y k l) refl))

pub more-zeros : (m n : ℕ) → zeros m ++ zeros n ≡ zeros (m + n)
more-zeros zero n = let e : n ≡ 0 + n = omega arith in ap zeros e
more-zeros (suc m) n = let e : suc (m + n) ≡ suc m + n = omega arith in ap (λ (l : List ℕ). 0 ∷ l) (more-zeros m n) ∙ ap zeros e

zero-at : (n k : ℕ) → get_or (zeros n) k 0 ≡ 0
zero-at zero k = refl
zero-at (suc n) zero = refl
zero-at (suc n) (suc k) = zero-at n k

-- nine zeros after others
nine-zeros : (l : List ℕ) (n : ℕ) (number : Offset → ℕ) (centre : Offset) → l ≡ zeros n → number ≡ (λ m. 0) → l ++ map number (map (added centre) ward_order) ≡ zeros (n + 9)
nine-zeros l n number centre e none = ap₂ (λ (k : List ℕ) (c : Offset → ℕ). k ++ map c (map (added centre) ward_order)) e none ∙ more-zeros n 9

-- every count and compared number of every level, whatever its centre
flat-numbers : (order : List Offset) (tolerance percentile v : ℕ) → 1 ≤ percentile → percentile ≤ 99 → v ≤ max_grey
    → (s w h : ℕ) → let answer = pair order (by_tolerance tolerance) percentile s w h (flat v) (flat v) in
    (answer.counts ≡ zeros (9 * (s + 1))) × (answer.compared ≡ zeros (9 * (s + 1)))
unfolding pair level
flat-numbers order tolerance percentile v some most byte zero w h = (
  ap (λ (c : Offset → ℕ). map c (map (added still) ward_order)) (no-count tolerance percentile w h v some most byte),
  ap (λ (c : Offset → ℕ). map c (map (added still) ward_order)) (none-compared tolerance percentile w h v some most byte),
)
flat-numbers order tolerance percentile v some most byte (suc s) w h =
    let answer : Frame → Aligned = λ f. pair order (by_tolerance tolerance) percentile s (w / 2) (h / 2) f f in
    let coarse = answer (halved (flat v)) in
    let centre : Offset = added coarse.offset coarse.offset in
    let below = flat-numbers order tolerance percentile v some most byte s (w / 2) (h / 2) in
    let m : 9 * (s + 1) + 9 ≡ 9 * (suc s + 1) = omega arith in (
      nine-zeros coarse.counts (9 * (s + 1)) (count_at (by_tolerance tolerance) percentile w h (flat v) (flat v)) centre
          (ap (λ (f : Frame). (answer f).counts) (flat-halved v) ∙ below.0) (no-count tolerance percentile w h v some most byte)
          ∙ ap zeros m,
      nine-zeros coarse.compared (9 * (s + 1)) (compared_at (by_tolerance tolerance) percentile w h (flat v) (flat v)) centre
          (ap (λ (f : Frame). (answer f).compared) (flat-halved v) ∙ below.1) (none-compared tolerance percentile w h v some most byte)
          ∙ ap zeros m,
    )

-- in any order of the nine the first step is taken at each level
pub flat-pair : (places : List ℕ) (fits : Arrangement places) (tolerance percentile v : ℕ) → 1 ≤ percentile → percentile ≤ 99 → v ≤ max_grey
    → (s w h : ℕ) → pair (arranged places) (by_tolerance tolerance) percentile s w h (flat v) (flat v) ≡ blank s (times_step (2 ^ suc s - 1) (first_step places fits))
flat-pair places fits tolerance percentile v some most byte s w h =
    let zeroed = flat-numbers (arranged places) tolerance percentile v some most byte s w h in
    let n : ℕ = 9 * (s + 1) in
    let moved = equal-counts places fits (by_tolerance tolerance) percentile s w h (flat v) (flat v)
    (subst (Equal (s + 1)) (sym zeroed.0) (λ k j l m. zero-at n (9 * k + j) ∙ sym (zero-at n (9 * k)))) in
    λ i. record { offset = moved i; counts = zeroed.0 i; compared = zeroed.1 i }
