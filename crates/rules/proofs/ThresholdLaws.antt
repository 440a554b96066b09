-- Laws of the smallest number that passes a test, and of the threshold as tests see it.
use mathlib.Core.Path.{◌≡◌, refl, sym, ap, ◌∙◌}
use mathlib.Core.Bool.{Bool, true, false, true≢false}
use mathlib.Core.Logic.{⊎_elim}
use Prim.Native.Nat.{ℕ, zero, suc, ◌*◌, ◌≤◌, ◌<◌}
use native.Mathlib.Nat.{mul_comm, mul-le-mul_right}
use native.Mathlib.Omega.{arith}
use lib.Dec.{leb, ltb, leb-zero, leb-suc-zero, leb-suc-suc}
use borrow.Author.Tests.{le-leb, lt-leb, leb-true}
use Rattle.rules.specs.Limits.{max_grey}
use Rattle.rules.specs.Sums.{one_if, sum_pixels}
use Rattle.rules.specs.Frames.{Frame}
use Rattle.rules.specs.Thresholds.{at_most, reaches, least, threshold}
use Rattle.rules.proofs.SumLaws.{order, pixels-ext, pixels-mono, pixels-all, pixels-zero}

least-here : (n : ℕ) (p : ℕ → Bool) → p 0 ≡ true → least (suc n) p ≡ 0
unfolding least
least-here n p e = rw (e, least)

least-later : (n : ℕ) (p : ℕ → Bool) → p 0 ≡ false → least (suc n) p ≡ suc (least n (λ v. p (suc v)))
unfolding least
least-later n p e = rw (e, least)

-- A number is the smallest that passes when all below it fail and it passes itself, or is the bound.
pub least-is : (n t : ℕ) (p : ℕ → Bool) → t ≤ n → ((u : ℕ) → u < t → p u ≡ false) → (t < n → p t ≡ true) → t ≡ least n p
unfolding least
least-is zero t p l fail pass = omega arith
least-is (suc n) zero p l fail pass = sym (least-here n p (pass (omega arith)))
least-is (suc n) (suc t) p l fail pass =
    ap suc (least-is n t (λ v. p (suc v)) (omega arith) (λ u k. fail (suc u) (omega arith)) (λ k. pass (omega arith)))
    ∙ sym (least-later n p (fail 0 (omega arith)))

-- Only the tests below the bound count.
pub least-ext : (n : ℕ) (p q : ℕ → Bool) → ((v : ℕ) → v < n → p v ≡ q v) → least n p ≡ least n q
unfolding least
least-ext zero p q e = refl
least-ext (suc n) p q e =
    split (q 0) refl (least-ext n (λ v. p (suc v)) (λ v. q (suc v)) (λ v l. e (suc v) (omega arith)))
  where
    split : (t : Bool) → q 0 ≡ t → least n (λ v. p (suc v)) ≡ least n (λ v. q (suc v)) → least (suc n) p ≡ least (suc n) q
    split true t d = least-here n p (e 0 (omega arith) ∙ t) ∙ sym (least-here n q t)
    split false t d = least-later n p (e 0 (omega arith) ∙ t) ∙ ap suc d ∙ sym (least-later n q t)

-- A test that passes wherever another one does has the smaller number.
pub least-rises : (n : ℕ) (p q : ℕ → Bool) → ((v : ℕ) → q v ≡ true → p v ≡ true) → least n p ≤ least n q
unfolding least
least-rises zero p q more = omega arith
least-rises (suc n) p q more =
    split (p 0) refl (q 0) refl (least-rises n (λ v. p (suc v)) (λ v. q (suc v)) (λ v. more (suc v)))
  where
    split : (s : Bool) → p 0 ≡ s → (t : Bool) → q 0 ≡ t → least n (λ v. p (suc v)) ≤ least n (λ v. q (suc v)) → least (suc n) p ≤ least (suc n) q
    split true s t u l = let a = least-here n p s in omega arith
    split false s true u l = absurd (true≢false (sym (more 0 u) ∙ s))
    split false s false u l = let a = least-later n p s in let b = least-later n q u in omega arith

up : (p : ℕ → Bool) → ((u : ℕ) → p u ≡ true → p (suc u) ≡ true) → p 0 ≡ true → (u : ℕ) → p u ≡ true
up p mono e zero = e
up p mono e (suc u) = mono u (up p mono e u)

-- A test that keeps passing is the comparison with the smallest number that passes it.
pub least-leb : (n : ℕ) (p : ℕ → Bool) → ((u : ℕ) → p u ≡ true → p (suc u) ≡ true) → p n ≡ true
    → (u : ℕ) → u ≤ n → leb (least n p) u ≡ p u
unfolding least
least-leb zero p mono e zero l = leb-zero 0 ∙ sym e
least-leb zero p mono e (suc u) l = absurd (omega arith)
least-leb (suc n) p mono e u l = split (p 0) refl u l (least-leb n (λ v. p (suc v)) (λ v. mono (suc v)) e)
  where
    split : (t : Bool) → p 0 ≡ t → (u : ℕ) → u ≤ suc n
        → ((v : ℕ) → v ≤ n → leb (least n (λ z. p (suc z))) v ≡ p (suc v)) → leb (least (suc n) p) u ≡ p u
    split true t u l ih = ap (λ (m : ℕ). leb m u) (least-here n p t) ∙ leb-zero u ∙ sym (up p mono t u)
    split false t zero l ih = ap (λ (m : ℕ). leb m 0) (least-later n p t) ∙ leb-suc-zero (least n (λ v. p (suc v))) ∙ sym t
    split false t (suc u) l ih =
        ap (λ (m : ℕ). leb m (suc u)) (least-later n p t) ∙ leb-suc-suc (least n (λ v. p (suc v))) u ∙ ih u (omega arith)

-- the pixels below v
abbrev pub below : ℕ → ℕ → Frame → ℕ → ℕ
below w h f v = sum_pixels w h (λ x y. one_if (ltb (f x y) v))

at-most-more : (w h : ℕ) (f : Frame) (v : ℕ) → at_most w h f v ≤ at_most w h f (suc v)
unfolding at_most
at-most-more w h f v = pixels-mono w h (λ x y. one_if (leb (f x y) v)) (λ x y. one_if (leb (f x y) (suc v))) (λ x y k l. one (f x y))
  where
    one : (a : ℕ) → one_if (leb a v) ≤ one_if (leb a (suc v))
    one a = ⊎_elim (λ (l : v < a). rw (lt-leb a v l) (omega arith)) (λ (l : a ≤ v). let m : a ≤ suc v = omega arith in rw (le-leb a v l, le-leb a (suc v) m) (omega arith)) (order v a)

-- The threshold of a frame of bytes, seen by comparisons: it is at most v where v reaches the percentile, …
pub threshold-leb : (w h percentile : ℕ) (f : Frame) → percentile ≤ 100 → ((x y : ℕ) → x < w → y < h → f x y ≤ 255)
    → (v : ℕ) → v ≤ 255 → leb (threshold w h percentile f) v ≡ reaches w h percentile f v
unfolding threshold reaches at_most
threshold-leb w h percentile f most low v l = least-leb max_grey (reaches w h percentile f) mono last v l
  where
    mono : (u : ℕ) → reaches w h percentile f u ≡ true → reaches w h percentile f (suc u) ≡ true
    mono u e =
        let a = leb-true (percentile * (w * h)) (100 * at_most w h f u) e in
        let b = at-most-more w h f u in
        le-leb (percentile * (w * h)) (100 * at_most w h f (suc u)) (omega arith)

    last : reaches w h percentile f 255 ≡ true
    last =
        let a : at_most w h f 255 ≡ h * w = pixels-all w h (λ x y. one_if (leb (f x y) 255)) (λ x y k l. ap one_if (le-leb (f x y) 255 (low x y k l))) in
        let b = mul-le-mul_right {m = percentile} {n = 100} (w * h) most in
        let c = mul_comm w h in
        le-leb (percentile * (w * h)) (100 * at_most w h f 255) (omega arith)

-- … and below v where the pixels below v reach it.
pub threshold-ltb : (w h percentile : ℕ) (f : Frame) → percentile ≤ 100 → 0 < percentile * (w * h)
    → ((x y : ℕ) → x < w → y < h → f x y ≤ 255)
    → (v : ℕ) → v ≤ 255 → ltb (threshold w h percentile f) v ≡ leb (percentile * (w * h)) (100 * below w h f v)
unfolding reaches at_most
threshold-ltb w h percentile f most some low zero l =
    let none : below w h f 0 ≡ 0 = pixels-zero w h (λ x y. one_if (ltb (f x y) 0)) (λ x y k m. ap one_if (leb-suc-zero (f x y))) in
    leb-suc-zero (threshold w h percentile f) ∙ sym (lt-leb (percentile * (w * h)) (100 * below w h f 0) (omega arith))
threshold-ltb w h percentile f most some low (suc v) l =
    leb-suc-suc (threshold w h percentile f) v
    ∙ threshold-leb w h percentile f most low v (omega arith)
    ∙ ap (λ (n : ℕ). leb (percentile * (w * h)) (100 * n)) (same v)
  where
    same : (u : ℕ) → at_most w h f u ≡ below w h f (suc u)
    same u = pixels-ext w h (λ x y. one_if (leb (f x y) u)) (λ x y. one_if (ltb (f x y) (suc u))) (λ x y k m. ap one_if (sym (leb-suc-suc (f x y) u)))
