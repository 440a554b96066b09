-- Laws of counting: what one more pixel does to a table and to a count.
use mathlib.Core.Path.{◌≡◌, refl, sym, ap, ◌∙◌}
use mathlib.Core.Bool.{Bool, true, false}
use mathlib.Core.List.{List}
use Prim.Native.Nat.{ℕ, zero, suc, ◌+◌, ◌≤◌, ◌<◌}
use native.Mathlib.Omega.{arith}
use lib.Dec.{eqb}
use lib.ListN.{length, get_or, set, replicate, length-set, length-replicate}
use lib.Seq.{get_or-set_same, get_or-set_other}
use borrow.Author.Tests.{eqb-true, eqb-false}
use Rattle.rules.specs.Sums.{one_if}
use Rattle.rules.proofs.SumLaws.{gate-le, sum-none, sum_more, sum-le}
use Rattle.histogram.specs.Counts.{max_pixels, count_to, count_in}
use Rattle.histogram.specs.Tables.{Room, Bumped, four, Tally}

-- A table after one more of the value k.
pub bumped : (t : List ℕ) (k : ℕ) → k < length t → Bumped k t (set t k (get_or t k 0 + 1))
bumped t k l = record { size = length-set t k (get_or t k 0 + 1); counts = λ v. split v (eqb k v) refl }
  where
    split : (v : ℕ) (b : Bool) → eqb k v ≡ b → get_or (set t k (get_or t k 0 + 1)) v 0 ≡ get_or t v 0 + one_if b
    split v true e =
        let d = eqb-true k v e in
        ap (λ (j : ℕ). get_or (set t k (get_or t k 0 + 1)) j 0) (sym d)
        ∙ get_or-set_same t k (get_or t k 0 + 1) 0 l
        ∙ ap (λ (j : ℕ). get_or t j 0 + 1) d
    split v false e = let d = eqb-false k v e in get_or-set_other t k v (get_or t k 0 + 1) 0 (λ q. d (sym q)) ∙ omega arith

pub count_none : (l : List ℕ) (v : ℕ) → count_to l 0 v ≡ 0
unfolding count_to
count_none l v = sum-none (λ i. one_if (eqb (get_or l i 0) v))

pub count-more : (l : List ℕ) (n v : ℕ) → count_to l (n + 1) v ≡ count_to l n v + one_if (eqb (get_or l n 0) v)
unfolding count_to
count-more l n v = sum_more n (λ i. one_if (eqb (get_or l i 0) v))

pub count-le : (l : List ℕ) (n v : ℕ) → count_to l n v ≤ n
unfolding count_to
count-le l n v = let a = sum-le n 1 (λ i. one_if (eqb (get_or l i 0) v)) (λ i k. gate-le (eqb (get_or l i 0) v) 1) in omega arith

count_next : (l : List ℕ) (n m v : ℕ) → m ≡ n + 1 → count_to l m v ≡ count_to l n v + one_if (eqb (get_or l n 0) v)
count_next l n m v e = ap (λ (k : ℕ). count_to l k v) e ∙ count-more l n v

abbrev pub zeros : ℕ → List ℕ
zeros n = replicate n 0

zero-at : (n v : ℕ) → get_or (zeros n) v 0 ≡ 0
zero-at zero v = refl
zero-at (suc n) zero = refl
zero-at (suc n) (suc v) = zero-at n v

-- four tables of zeros
pub tally-none : (l : List ℕ) → Tally l 0 (zeros 256) (zeros 256) (zeros 256) (zeros 256)
tally-none l =
    let z : length (zeros 256) ≡ 256 = length-replicate {A = ℕ} 256 0 in
    record { sizes = (z, z, z, z); counts = λ v. let e = zero-at 256 v in let f = count_none l v in omega arith }

-- Four tables of fewer pixels than the largest frame has have room for one more of any value.
pub tally-room : (l : List ℕ) (n : ℕ) (a b c d : List ℕ) → n < max_pixels → Tally l n a b c d
    → (v : ℕ) → Room a v × Room b v × Room c v × Room d v
tally-room l n a b c d m t v = let e = t.counts v in let f = count-le l n v in omega arith

-- a pixel into each table
pub tally-more : (l : List ℕ) (n : ℕ) (a b c d a' b' c' d' : List ℕ) → Tally l n a b c d
    → Bumped (get_or l n 0) a a' → Bumped (get_or l (n + 1) 0) b b' → Bumped (get_or l (n + 2) 0) c c' → Bumped (get_or l (n + 3) 0) d d'
    → Tally l (n + 4) a' b' c' d'
tally-more l n a b c d a' b' c' d' t p q r s = record {
  sizes = omega arith;
  counts = λ v.
      let k0 = count-more l n v in
      let k1 = count_next l (n + 1) (n + 2) v (omega arith) in
      let k2 = count_next l (n + 2) (n + 3) v (omega arith) in
      let k3 = count_next l (n + 3) (n + 4) v (omega arith) in
      omega (arith, t.counts v, p.counts v, q.counts v, r.counts v, s.counts v);
}

-- the first table with the rest of the list: what the four then count
pub tally-rest : (l : List ℕ) (n : ℕ) (a b c d a' : List ℕ) → Tally l n a b c d
    → ((v : ℕ) → get_or a' v 0 + count_to l n v ≡ get_or a v 0 + count_in l v)
    → (v : ℕ) → four a' b c d v ≡ count_in l v
tally-rest l n a b c d a' t r v = omega (arith, t.counts v, r v)
