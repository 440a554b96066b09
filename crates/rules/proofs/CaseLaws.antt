-- Proof by cases: of two numbers, with equality as a case of its own, and of every number below n by one computed test.
use mathlib.Core.Path.{◌≡◌, refl}
use mathlib.Core.Bool.{Bool, true, false, ◌&&◌, false≢true}
use mathlib.Core.Logic.{⊎_elim}
use Prim.Native.Nat.{ℕ, zero, suc, ◌≤◌, ◌<◌}
use native.Mathlib.Omega.{arith}
use Rattle.rules.proofs.SumLaws.{order}

pub compared : {A : Type 0} (a b : ℕ) → (a < b → A) → (a ≡ b → A) → (b < a → A) → A
compared a b less same more = ⊎_elim less (λ (p : b ≤ a). ⊎_elim more (λ (q : a ≤ b). same (omega arith)) (order b a)) (order a b)

-- a test of every number below n
unfoldable pub all : ℕ → (ℕ → Bool) → Bool
all zero test = true
all (suc n) test = test n && all n test

pub and_both : (a b : Bool) → a && b ≡ true → (a ≡ true) × (b ≡ true)
and_both true b e = (refl, e)
and_both false b e = absurd (false≢true e)

pub all-at : (n : ℕ) (test : ℕ → Bool) → all n test ≡ true → (p : ℕ) → p < n → test p ≡ true
unfolding all
all-at zero test e p l = absurd (omega arith)
all-at (suc n) test e p l = ⊎_elim (λ (k : p < n). all-at n test both.1 p k) (λ (k : n ≤ p). rw (at k) both.0) (order p n)
  where
    both : (test n ≡ true) × (all n test ≡ true)
    both = and_both (test n) (all n test) e

    at : n ≤ p → p ≡ n
    at k = omega arith
