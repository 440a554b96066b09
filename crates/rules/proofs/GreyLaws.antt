-- Laws of the pixel rules: the second smallest of four by minima and maxima alone, as code without a sort takes it.
use mathlib.Core.Path.{◌≡◌, refl, sym, ap, ap₂, ◌∙◌}
use mathlib.Core.Logic.{⊎_elim}
use mathlib.Core.List.{List, [], ◌∷◌}
use Prim.Native.Nat.{ℕ, ◌≤◌, ◌<◌, min, max}
use native.Mathlib.Omega.{arith}
use lib.ListN.{get_or}
use borrow.Author.Tests.{le-leb, lt-leb}
use Rattle.rules.specs.Greys.{insert, sorted, second_smallest}
use Rattle.rules.proofs.SumLaws.{order}

-- An insertion puts the lesser of two first and goes on with the greater.
insert-last : (a b : ℕ) → insert a (b ∷ []) ≡ min a b ∷ max a b ∷ []
unfolding insert
insert-last a b = ⊎_elim above below (order b a)
  where
    above : b < a → insert a (b ∷ []) ≡ min a b ∷ max a b ∷ []
    above l = let p : min a b ≡ b = omega arith in let q : max a b ≡ a = omega arith in rw (lt-leb a b l, p, q)

    below : a ≤ b → insert a (b ∷ []) ≡ min a b ∷ max a b ∷ []
    below l = let p : min a b ≡ a = omega arith in let q : max a b ≡ b = omega arith in rw (le-leb a b l, p, q)

insert-first : (a b : ℕ) (l : List ℕ) → get_or (insert a (b ∷ l)) 0 0 ≡ min a b
unfolding insert
insert-first a b l = ⊎_elim (λ (k : b < a). rw (lt-leb a b k) (omega arith)) (λ (k : a ≤ b). rw (le-leb a b k) (omega arith)) (order b a)

insert-cons : (a b c : ℕ) (l : List ℕ) → b ≤ c → insert a (b ∷ c ∷ l) ≡ min a b ∷ insert (max a b) (c ∷ l)
unfolding insert
insert-cons a b c l k = ⊎_elim above below (order b a)
  where
    above : b < a → insert a (b ∷ c ∷ l) ≡ min a b ∷ insert (max a b) (c ∷ l)
    above m =
        let put : insert a (b ∷ c ∷ l) ≡ b ∷ insert a (c ∷ l) = rw (lt-leb a b m) refl in
        put ∙ ap₂ (λ (x y : ℕ). x ∷ insert y (c ∷ l)) (omega arith) (omega arith)

    below : a ≤ b → insert a (b ∷ c ∷ l) ≡ min a b ∷ insert (max a b) (c ∷ l)
    below m =
        let put : insert a (b ∷ c ∷ l) ≡ a ∷ insert b (c ∷ l) = rw (le-leb a b m, le-leb b c k) refl in
        put ∙ ap₂ (λ (x y : ℕ). x ∷ insert y (c ∷ l)) (omega arith) (omega arith)

-- the third number of a sort goes between the first two, and the fourth between what is then first and second
second-chain : (a b c d : ℕ)
    → second_smallest a b c d ≡ min (max a (min b (min c d))) (min (max b (min c d)) (max c d))
unfolding second_smallest sorted insert
second-chain a b c d =
    ap (λ (l : List ℕ). get_or (insert a l) 1 0) three
    ∙ ap (λ (l : List ℕ). get_or l 1 0) (insert-cons a (min b (min c d)) (min (max b (min c d)) (max c d)) (max (max b (min c d)) (max c d) ∷ []) (omega arith))
    ∙ insert-first (max a (min b (min c d))) (min (max b (min c d)) (max c d)) (max (max b (min c d)) (max c d) ∷ [])
  where
    three : insert b (insert c (insert d [])) ≡ min b (min c d) ∷ min (max b (min c d)) (max c d) ∷ max (max b (min c d)) (max c d) ∷ []
    three =
        ap (λ (l : List ℕ). insert b l) (insert-last c d)
        ∙ insert-cons b (min c d) (max c d) [] (omega arith)
        ∙ ap (λ (l : List ℕ). min b (min c d) ∷ l) (insert-last (max b (min c d)) (max c d))

-- minima commute
min-swap : (a b c : ℕ) → min a (min b c) ≡ min b (min a c)
min-swap a b c = omega arith

-- the chain over two numbers in order, p ≤ q, is the network over the two pairs
network : (a b p q : ℕ) → p ≤ q → min (max a (min b p)) (min (max b p) q) ≡ min (max (min a b) p) (min (max a b) q)
network a b p q k = ⊎_elim under over (order b p)
  where
    under : b < p → min (max a (min b p)) (min (max b p) q) ≡ min (max (min a b) p) (min (max a b) q)
    under l =
        let least : min b p ≡ b = omega arith in
        let most : max b p ≡ p = omega arith in
        let left : max (min a b) p ≡ p = omega arith in
        rw (least, most, left) (min-swap (max a b) p q)

    low : a < b → min (max a p) (min b q) ≡ min (max (min a b) p) (min (max a b) q)
    low m = let left : min a b ≡ a = omega arith in let right : max a b ≡ b = omega arith in rw (left, right)

    high : p ≤ b → b ≤ a → min (max a p) (min b q) ≡ min (max (min a b) p) (min (max a b) q)
    high l m =
        let left : min a b ≡ b = omega arith in
        let right : max a b ≡ a = omega arith in
        let over : max a p ≡ a = omega arith in
        let kept : max b p ≡ b = omega arith in
        rw (left, right, over, kept) (min-swap a b q)

    over : p ≤ b → min (max a (min b p)) (min (max b p) q) ≡ min (max (min a b) p) (min (max a b) q)
    over l =
        let least : min b p ≡ p = omega arith in
        let most : max b p ≡ b = omega arith in
        rw (least, most) (⊎_elim low (high l) (order a b))

pub second-formula : (a b c d : ℕ) → second_smallest a b c d ≡ min (max (min a b) (min c d)) (min (max a b) (max c d))
second-formula a b c d = second-chain a b c d ∙ network a b (min c d) (max c d) (omega arith)

-- the second and the third number may change places
middle-low : (b c d : ℕ) → c < d → min (max b c) d ≡ min (max c (min b d)) (max b d)
middle-low b c d l = omega arith

middle-high : (b c d : ℕ) → d ≤ c → min (max b d) c ≡ min (max c (min b d)) (max b d)
middle-high b c d l = omega arith

middle : (b c d : ℕ) → min (max b (min c d)) (max c d) ≡ min (max c (min b d)) (max b d)
middle b c d = ⊎_elim low high (order c d)
  where
    low : c < d → min (max b (min c d)) (max c d) ≡ min (max c (min b d)) (max b d)
    low l = let p : min c d ≡ c = omega arith in let q : max c d ≡ d = omega arith in rw (p, q) (middle-low b c d l)

    high : d ≤ c → min (max b (min c d)) (max c d) ≡ min (max c (min b d)) (max b d)
    high l = let p : min c d ≡ d = omega arith in let q : max c d ≡ c = omega arith in rw (p, q) (middle-high b c d l)

-- the same by columns, a above c and b above d
pub second-columns : (a b c d : ℕ) → second_smallest a b c d ≡ min (max (min a c) (min b d)) (min (max a c) (max b d))
second-columns a b c d =
    second-chain a b c d
    ∙ ap₂ (λ (least second : ℕ). min (max a least) second) (min-swap b c d) (middle b c d)
    ∙ sym (second-chain a c b d)
    ∙ second-formula a c b d
