-- Laws of sums over numbers and over pixels.
use mathlib.Core.Path.{◌≡◌, refl, sym, ap, ap₂, ◌∙◌}
use mathlib.Core.Bool.{Bool, true, false, ◌&&◌}
use mathlib.Core.Logic.{◌⊎◌, inl, inr}
use Prim.Native.Nat.{ℕ, zero, suc, ◌+◌, ◌*◌, ◌-◌, ◌≤◌, ◌<◌}
use native.Mathlib.Decide.{dec_lt}
use native.Mathlib.Nat.{le_refl}
use native.Mathlib.Numerals.{add-one}
use native.Mathlib.Omega.{arith}
use Rattle.rules.specs.Sums.{gate, one_if, sum, row_sum, sum_pixels}

-- the case split on two numbers
pub order : (a b : ℕ) → (a < b) ⊎ (b ≤ a)
order a b = elim (dec_lt a b) [ yes h ↦ inl h | no h ↦ inr (omega arith) ]

pub gate-le : (t : Bool) (n : ℕ) → gate t n ≤ n
gate-le true n = le_refl n
gate-le false n = omega arith

pub gate-small : (t : Bool) (n : ℕ) → n < 2 → gate t n < 2
gate-small true n l = l
gate-small false n l = omega arith

pub gate-zero : (t : Bool) → gate t 0 ≡ 0
gate-zero true = refl
gate-zero false = refl

-- a test that fails leaves nothing
pub and-false : (t : Bool) → one_if (t && false) ≡ 0
and-false true = refl
and-false false = refl

pub sum-none : (f : ℕ → ℕ) → sum 0 f ≡ 0
unfolding sum
sum-none f = refl

pub sum_more : (n : ℕ) (f : ℕ → ℕ) → sum (n + 1) f ≡ sum n f + f n
unfolding sum
sum_more n f = rw (add-one n)

pub sum-ext : (n : ℕ) (f g : ℕ → ℕ) → ((i : ℕ) → i < n → f i ≡ g i) → sum n f ≡ sum n g
unfolding sum
sum-ext zero f g e = refl
sum-ext (suc n) f g e = ap₂ (λ (a b : ℕ). a + b) (sum-ext n f g (λ i l. e i (omega arith))) (e n (omega arith))

pub sum-zero : (n : ℕ) (f : ℕ → ℕ) → ((i : ℕ) → i < n → f i ≡ 0) → sum n f ≡ 0
unfolding sum
sum-zero zero f e = refl
sum-zero (suc n) f e = let a = sum-zero n f (λ i l. e i (omega arith)) in let b = e n (omega arith) in omega arith

pub sum-le : (n b : ℕ) (f : ℕ → ℕ) → ((i : ℕ) → i < n → f i ≤ b) → sum n f ≤ n * b
unfolding sum
sum-le zero b f e = omega arith
sum-le (suc n) b f e =
    let a = sum-le n b f (λ i l. e i (omega arith)) in
    let c = e n (omega arith) in
    rw (native.Mathlib.Nat.suc-mul n b) (omega arith)

pub sum-add : (n : ℕ) (f g : ℕ → ℕ) → sum n f + sum n g ≡ sum n (λ i. f i + g i)
unfolding sum
sum-add zero f g = refl
sum-add (suc n) f g = let a = sum-add n f g in omega arith

pub sum-split : (m n : ℕ) (f : ℕ → ℕ) → sum (m + n) f ≡ sum m f + sum n (λ i. f (m + i))
unfolding sum
sum-split m zero f = ap (λ (k : ℕ). sum k f) (native.Mathlib.Nat.add-zero m) ∙ sym (native.Mathlib.Nat.add-zero (sum m f))
sum-split m (suc n) f =
    ap (λ (k : ℕ). sum k f) (native.Mathlib.Nat.add-suc m n) ∙ (let a = sum-split m n f in omega arith)

-- the first m of n summands
pub sum-part : (m n : ℕ) (f : ℕ → ℕ) → m ≤ n → sum m f ≤ sum n f
sum-part m n f l =
    let a = sum-split m (n - m) f in
    let b : sum (m + (n - m)) f ≡ sum n f = ap (λ (k : ℕ). sum k f) (omega arith) in
    omega arith

pub pixels-ext : (w h : ℕ) (f g : ℕ → ℕ → ℕ) → ((x y : ℕ) → x < w → y < h → f x y ≡ g x y) → sum_pixels w h f ≡ sum_pixels w h g
unfolding sum_pixels
pixels-ext w h f g e = sum-ext h (row_sum w f) (row_sum w g) (λ y l. sum-ext w (λ x. f x y) (λ x. g x y) (λ x k. e x y k l))

sum_mono : (n : ℕ) (f g : ℕ → ℕ) → ((i : ℕ) → i < n → f i ≤ g i) → sum n f ≤ sum n g
unfolding sum
sum_mono zero f g e = le_refl 0
sum_mono (suc n) f g e = let a = sum_mono n f g (λ i l. e i (omega arith)) in let b = e n (omega arith) in omega arith

pub sum-all : (n b : ℕ) (f : ℕ → ℕ) → ((i : ℕ) → i < n → f i ≡ b) → sum n f ≡ n * b
unfolding sum
sum-all zero b f e = sym (native.Mathlib.Nat.zero-mul b)
sum-all (suc n) b f e =
    let a = sum-all n b f (λ i l. e i (omega arith)) in
    let c = e n (omega arith) in
    rw (native.Mathlib.Nat.suc-mul n b) (omega arith)

pub pixels-mono : (w h : ℕ) (f g : ℕ → ℕ → ℕ) → ((x y : ℕ) → x < w → y < h → f x y ≤ g x y) → sum_pixels w h f ≤ sum_pixels w h g
unfolding sum_pixels
pixels-mono w h f g e = sum_mono h (row_sum w f) (row_sum w g) (λ y l. sum_mono w (λ x. f x y) (λ x. g x y) (λ x k. e x y k l))

pub pixels-all : (w h : ℕ) (f : ℕ → ℕ → ℕ) → ((x y : ℕ) → x < w → y < h → f x y ≡ 1) → sum_pixels w h f ≡ h * w
unfolding sum_pixels
pixels-all w h f e = sum-all h w (row_sum w f) (λ y l. sum-all w 1 (λ x. f x y) (λ x k. e x y k l) ∙ omega arith)

pub pixels-zero : (w h : ℕ) (f : ℕ → ℕ → ℕ) → ((x y : ℕ) → x < w → y < h → f x y ≡ 0) → sum_pixels w h f ≡ 0
unfolding sum_pixels
pixels-zero w h f e = sum-zero h (row_sum w f) (λ y l. sum-zero w (λ x. f x y) (λ x k. e x y k l))

-- a sum over the pixels of a frame that stands in a list is the sum over the list's places
pub pixels-flat : (w h : ℕ) (g : ℕ → ℕ) → sum_pixels w h (λ x y. g (y * w + x)) ≡ sum (h * w) g
unfolding sum_pixels sum
pixels-flat w zero g = ap (λ (k : ℕ). sum k g) (sym (native.Mathlib.Nat.zero-mul w))
pixels-flat w (suc h) g =
    ap (λ (s : ℕ). s + sum w (λ x. g (h * w + x))) (pixels-flat w h g)
    ∙ sym (sum-split (h * w) w g)
    ∙ ap (λ (k : ℕ). sum k g) (sym (native.Mathlib.Nat.suc-mul h w))
