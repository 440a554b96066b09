-- The numbers of a live bracket without its oldest frame, from the bracket that was read and the pairs that were moved.
use mathlib.Core.Path.{◌≡◌, ap, ◌∙◌}
use mathlib.Core.List.{List, []}
use Prim.Native.Nat.{ℕ, ◌+◌, ◌-◌, ◌<◌}
use native.Mathlib.Omega.{arith}
use lib.IntN.{ℤ}
use Rattle.live.specs.declared.Bracket.{Bracket}
use Rattle.live.specs.Held.{memory_of, bracket_of, held_pair, layout}
use Rattle.live.specs.HeldOk.{BracketOk}
use Rattle.live.specs.Steps.{holding, shrunk}
use Rattle.live.proofs.HeldLaws.{layout-ext}
use Rattle.held_writes.specs.HeldWrites.{PairDropped}

module _ (numbers : List ℤ) (B : Bracket) (read : B ≡ bracket_of numbers) where
  pub frames-read : 0 < (bracket_of numbers).frames → 0 < B.frames
  frames-read some = rw read some

  pub limits-read : BracketOk (bracket_of numbers) → BracketOk B
  limits-read ok = rw read ok

  pub shrunk-is : (n : ℕ) (moved after : List ℤ) → n ≡ B.frames - 1 - 1 → PairDropped n numbers moved
      → after ≡ layout (holding B (B.frames - 1)) (held_pair moved) → after ≡ (shrunk (memory_of numbers [])).numbers
  unfolding shrunk
  shrunk-is n moved after e dropped put =
      put
      ∙ layout-ext (holding B (B.frames - 1)) (held_pair moved) (λ k. held_pair numbers (k + 1)) (λ k l. dropped.pairs k (omega arith))
      ∙ ap (λ (K : Bracket). layout (holding K (K.frames - 1)) (λ k. held_pair numbers (k + 1))) read
