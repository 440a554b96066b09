-- Frames that go together have the same pair answer, for any order of the candidates and any exclusion rule that sees grey values by their order alone;
-- and series with the same pair answers the same answer.
use mathlib.Core.Path.{◌≡◌, ap}
use Prim.Native.Nat.{ℕ, ◌-◌, ◌≤◌, ◌<◌}
use Rattle.rules.specs.Levels.{ExclusionRule, Aligned}
use Rattle.rules.specs.Series.{answer_of}
use Rattle.rules.proofs.SeriesLaws.{frame-list-ext, joined-ext}
use Rattle.rules.proofs.PairLaws.{Kept}
use Rattle.reexposure.specs.Reexposure.{ByOrder}
use Rattle.reexposure.proofs.Links.{Link, Linked, link-halve, same-planes}

pub linked-kept : (exclusion : ExclusionRule) (percentile : ℕ) → ByOrder exclusion percentile → 1 ≤ percentile → percentile ≤ 99
    → (Q : ℕ → ℕ → Type 0) → Link Q → Kept exclusion percentile (Linked Q)
linked-kept exclusion percentile fair some most Q link = record {
  planes = λ w h f g linked. same-planes Q link exclusion percentile w h f g fair some most linked;
  halves = link-halve Q link;
}

-- A series' answer sees only the answers of its pairs.
pub answer-ext : (n r : ℕ) (f g : ℕ → Aligned) → r < n → ((k : ℕ) → k < n - 1 → f k ≡ g k) → answer_of n r f ≡ answer_of n r g
unfolding answer_of
answer-ext n r f g l same =
    let offsets = frame-list-ext n r (λ k. (f k).offset) (λ k. (g k).offset) l (λ k m. ap (λ (x : Aligned). x.offset) (same k m)) in
    let counts = joined-ext (n - 1) (λ k. (f k).counts) (λ k. (g k).counts) (λ k m. ap (λ (x : Aligned). x.counts) (same k m)) in
    let compared = joined-ext (n - 1) (λ k. (f k).compared) (λ k. (g k).compared) (λ k m. ap (λ (x : Aligned). x.compared) (same k m)) in
    λ i. record { offsets = offsets i; counts = counts i; compared = compared i }
