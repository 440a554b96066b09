-- The counts of a list's values, added: how many of its places hold a value below another.
use mathlib.Core.Path.{◌≡◌, refl, sym, ap, ◌∙◌}
use mathlib.Core.Bool.{Bool, true, false}
use mathlib.Core.List.{List}
use Prim.Native.Nat.{ℕ, zero, suc, ◌+◌, ◌≤◌, ◌<◌}
use native.Mathlib.Numerals.{add-one}
use native.Mathlib.Omega.{arith}
use lib.Dec.{eqb, ltb}
use lib.ListN.{length, get_or}
use borrow.Author.Tests.{eqb-true, eqb-false, ltb-true, ltb-false, lt-ltb, le-ltb}
use Rattle.rules.specs.Sums.{one_if, sum}
use Rattle.rules.proofs.SumLaws.{sum-ext, sum-zero, sum-all, sum-add}
use Rattle.histogram.specs.Counts.{count_to, count_in, CountsOf}

-- a value below v + 1 is below v or is v
below_next : (x v : ℕ) → one_if (ltb x v) + one_if (eqb x v) ≡ one_if (ltb x (v + 1))
below_next x v = split (eqb x v) refl (ltb x v) refl
  where
    split : (e : Bool) → eqb x v ≡ e → (l : Bool) → ltb x v ≡ l → one_if l + one_if e ≡ one_if (ltb x (v + 1))
    split true p true q = absurd (let a = eqb-true x v p in let b = ltb-true x v q in omega arith)
    split true p false q = let a = eqb-true x v p in rw (lt-ltb x (v + 1) (omega arith))
    split false p true q = let b = ltb-true x v q in rw (lt-ltb x (v + 1) (omega arith))
    split false p false q = let a = eqb-false x v p in let b = ltb-false x v q in rw (le-ltb x (v + 1) (omega arith))

-- the counts of the values below v, added, count the places that hold a value below v
counts-below : (l : List ℕ) (n v : ℕ) → sum v (λ k. count_to l n k) ≡ sum n (λ i. one_if (ltb (get_or l i 0) v))
unfolding sum count_to
counts-below l n zero = sym (sum-zero n (λ i. one_if (ltb (get_or l i 0) 0)) (λ i k. rw (le-ltb (get_or l i 0) 0 (omega arith))))
counts-below l n (suc v) =
    ap (λ (s : ℕ). s + count_to l n v) (counts-below l n v)
    ∙ sum-add n (λ i. one_if (ltb (get_or l i 0) v)) (λ i. one_if (eqb (get_or l i 0) v))
    ∙ sum-ext n (λ i. one_if (ltb (get_or l i 0) v) + one_if (eqb (get_or l i 0) v)) (λ i. one_if (ltb (get_or l i 0) (suc v)))
    (λ i k. below_next (get_or l i 0) v ∙ ap (λ (j : ℕ). one_if (ltb (get_or l i 0) j)) (add-one v))

module _ (l counts : List ℕ) (e : (v : ℕ) → v < 256 → get_or counts v 0 ≡ count_in l v) where
  pub counts-to : (v : ℕ) → v ≤ 256 → sum v (λ k. get_or counts k 0) ≡ sum (length l) (λ i. one_if (ltb (get_or l i 0) v))
  counts-to v m = sum-ext v (λ k. get_or counts k 0) (λ k. count_in l k) (λ k n. e k (omega arith)) ∙ counts-below l (length l) v

  -- the counts of each value of a list of bytes together count its places
  pub counts_of : ((i : ℕ) → i < length l → get_or l i 0 < 256) → CountsOf l counts
  counts_of b = record {
    each = e;
    all = counts-to 256 (omega arith)
        ∙ sum-all (length l) 1 (λ i. one_if (ltb (get_or l i 0) 256)) (λ i k. rw (lt-ltb (get_or l i 0) 256 (b i k)))
        ∙ omega arith;
  }
