-- A live bracket's memory with one frame more, from the bracket that was read, the pair that was put and the new frame's grey.
use mathlib.Core.Path.{◌≡◌, ap, ◌∙◌}
use mathlib.Core.Bool.{Bool}
use mathlib.Core.List.{List}
use Prim.Native.Nat.{ℕ, ◌+◌, ◌-◌}
use native.Mathlib.Omega.{arith}
use lib.IntN.{ℤ}
use Rattle.rules.specs.declared.Offset.{Offset}
use Rattle.rules.specs.Frames.{rows}
use Rattle.rules.specs.Greys.{grey_frame}
use Rattle.live.specs.declared.Bracket.{Bracket}
use Rattle.live.specs.Held.{memory_of, bracket_of, held_pair, pairs_in, layout}
use Rattle.live.specs.HeldOk.{BracketOk, AddOk}
use Rattle.live.specs.Steps.{holding, setup_in, new_pair, extended, grown}
use Rattle.live.proofs.HeldLaws.{layout-ext}
use Rattle.held_writes.specs.HeldWrites.{PairPut}
use Rattle.newest_frame.specs.NewestFrames.{Replaced, NewestAligned}

module _ (numbers : List ℤ) (B : Bracket) (read : B ≡ bracket_of numbers) where
  -- what is known of the bracket that was read
  pub limits-read : BracketOk (bracket_of numbers) → BracketOk B
  limits-read ok = rw read ok

  pub accepted-read : (bad : Bool) (held newest raster grey words : ℕ) → AddOk bad (bracket_of numbers) held newest raster grey words → AddOk bad B held newest raster grey words
  accepted-read bad held newest raster grey words ok = rw read ok

  -- the memory, whatever order the nine are in
  module _ (order : List Offset) (newest raster : List ℕ) (numbers' : List ℤ) (newest' : List ℕ) where
    grown-is : numbers' ≡ layout (holding B (B.frames + 1)) (extended (held_pair numbers) (pairs_in B) (new_pair order B newest raster)) → Replaced B.w B.h raster newest'
        → memory_of numbers' newest' ≡ grown order raster (memory_of numbers newest)
    unfolding grown
    grown-is n g =
        (λ i. memory_of (n i) (g i))
        ∙ ap (λ (K : Bracket). memory_of (layout (holding K (K.frames + 1)) (extended (held_pair numbers) (pairs_in K) (new_pair order K newest raster))) (rows K.w K.h (grey_frame K.w raster))) read

    -- the first frame
    pub grown-first : B.frames ≡ 0 → numbers' ≡ layout (holding B (B.frames + 1)) (held_pair numbers) → Replaced B.w B.h raster newest'
        → memory_of numbers' newest' ≡ grown order raster (memory_of numbers newest)
    grown-first z put new =
        grown-is (put ∙ layout-ext (holding B (B.frames + 1)) (held_pair numbers) (extended (held_pair numbers) (pairs_in B) (new_pair order B newest raster)) (λ k l. absurd (omega arith))) new

    -- each other one
    pub grown-next : (m : Offset) (held : List ℤ) → PairPut (B.frames - 1) m numbers held → NewestAligned order (setup_in B) newest newest' raster m
        → numbers' ≡ layout (holding B (B.frames + 1)) (held_pair held) → memory_of numbers' newest' ≡ grown order raster (memory_of numbers newest)
    unfolding new_pair
    grown-next m held pair aligned put =
        grown-is
        (put
        ∙ layout-ext (holding B (B.frames + 1)) (held_pair held) (extended (held_pair numbers) (pairs_in B) m) (λ k l. pair.pairs k)
        ∙ ap (λ (o : Offset). layout (holding B (B.frames + 1)) (extended (held_pair numbers) (pairs_in B) o)) aligned.offset)
        aligned.replaced
