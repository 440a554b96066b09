-- Laws of lists filled place by place.
use mathlib.Core.Path.{◌≡◌, sym, ap, ◌∙◌}
use mathlib.Core.Logic.{⊎_elim}
use mathlib.Core.List.{List}
use Prim.Native.Nat.{ℕ, ◌+◌, ◌≤◌, ◌<◌}
use native.Mathlib.Omega.{arith}
use lib.ListN.{length, get_or, set}
use lib.Seq.{get_or-set_same, get_or-set_other}
use Rattle.rules.specs.Buffers.{Filled}
use Rattle.rules.proofs.SumLaws.{order}

pub filled_none : (f : ℕ → ℕ) (l : List ℕ) → Filled f 0 l
filled_none f l = record { done = λ k m. absurd (omega arith) }

pub filled_more : (f : ℕ → ℕ) (n : ℕ) (l : List ℕ) (v : ℕ) → n < length l → Filled f n l → v ≡ f n → Filled f (n + 1) (set l n v)
filled_more f n l v room r e = record { done = λ k m. ⊎_elim (old k) (new k m) (order k n) }
  where
    old : (k : ℕ) → k < n → get_or (set l n v) k 0 ≡ f k
    old k m = get_or-set_other l n k v 0 (omega arith) ∙ r.done k m

    new : (k : ℕ) → k < n + 1 → n ≤ k → get_or (set l n v) k 0 ≡ f k
    new k m p =
        let d : k ≡ n = omega arith in
        ap (λ (j : ℕ). get_or (set l n v) j 0) d ∙ get_or-set_same l n v 0 room ∙ e ∙ ap f (sym d)
