-- A difference count and a compared number see the bit planes only inside the frame.
use mathlib.Core.Path.{◌≡◌, refl, ap}
use mathlib.Core.Logic.{⊎_elim}
use Prim.Native.Nat.{ℕ, ◌≤◌, ◌<◌}
use lib.Dec.{ltb}
use lib.IntN.{ℤ, pos, negsuc, ◌-ℤ◌}
use borrow.Author.Tests.{le-ltb}
use Rattle.rules.specs.Sums.{gate, sum_pixels}
use Rattle.rules.specs.Planes.{within}
use Rattle.rules.specs.Differences.{Planes, SamePlanes, differ, keep, with_partner, difference, compared}
use Rattle.rules.proofs.SumLaws.{order, pixels-ext}

pub within-ext : (n : ℕ) (z : ℤ) (f g : ℕ → ℕ) → ((k : ℕ) → k < n → f k ≡ g k) → within n z f ≡ within n z g
unfolding within
within-ext n (pos k) f g e =
    ⊎_elim (λ (l : k < n). ap (gate (ltb k n)) (e k l)) (λ (l : n ≤ k). rw (le-ltb k n l)) (order k n)
within-ext n (negsuc k) f g e = refl

-- tests that agree at pixels of the frame
pub partner-ext : (w h : ℕ) (dx dy : ℤ) (f g : ℕ → ℕ → ℕ → ℕ → ℕ) → ((x y u v : ℕ) → x < w → y < h → u < w → v < h → f x y u v ≡ g x y u v)
    → sum_pixels w h (with_partner w h dx dy f) ≡ sum_pixels w h (with_partner w h dx dy g)
unfolding with_partner
partner-ext w h dx dy f g e =
    pixels-ext w h (with_partner w h dx dy f) (with_partner w h dx dy g)
    (λ x y k l.
    within-ext w (pos x -ℤ dx) (λ u. within h (pos y -ℤ dy) (λ v. f x y u v)) (λ u. within h (pos y -ℤ dy) (λ v. g x y u v))
    (λ u m. within-ext h (pos y -ℤ dy) (λ v. f x y u v) (λ v. g x y u v) (λ v n. e x y u v k l m n)))

module _ (w h : ℕ) (dx dy : ℤ) (a a' b b' : Planes) (p : SamePlanes w h a a') (q : SamePlanes w h b b') where
  pub difference-ext : difference w h dx dy a b ≡ difference w h dx dy a' b'
  unfolding difference differ
  difference-ext =
      partner-ext w h dx dy (differ a b) (differ a' b')
      (λ x y u v k l m n. rw (p.thresholds x y k l, p.exclusions x y k l, q.thresholds u v m n, q.exclusions u v m n))

  pub compared-ext : compared w h dx dy a b ≡ compared w h dx dy a' b'
  unfolding compared keep
  compared-ext = partner-ext w h dx dy (keep a b) (keep a' b') (λ x y u v k l m n. rw (p.exclusions x y k l, q.exclusions u v m n))
