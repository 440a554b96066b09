-- Laws of the four quadrants: their offsets are small, and are written one after another.
use mathlib.Core.Path.{◌≡◌, refl, sym, ap, ◌∙◌}
use mathlib.Core.List.{List, [], ◌∷◌}
use Prim.Native.Nat.{ℕ, zero, suc, ◌+◌, ◌-◌, ◌^◌, ◌≤◌, ◌<◌}
use native.Mathlib.Omega.{arith}
use lib.IntN.{ℤ}
use lib.ListN.{length, get_or}
use lib.Pow.{pow_mono}
use Rattle.rules.specs.declared.Offset.{Offset}
use Rattle.rules.specs.declared.Setup.{Setup}
use Rattle.rules.specs.Limits.{max_offset}
use Rattle.rules.specs.Frames.{written_over}
use Rattle.rules.specs.Greys.{grey_frame}
use Rattle.rules.specs.Levels.{Near, arranged, rule_of}
use Rattle.rules.specs.Series.{offset_list}
use Rattle.rules.specs.Calls.{pair_result}
use Rattle.rules.proofs.OffsetLaws.{near-pair, near-arranged, near-more}
use Rattle.crop.specs.declared.Quadrant.{Quadrant}
use Rattle.offsets.specs.PairOffsets.{pair_offset, with_offset, SmallPairs}
use Rattle.offsets.proofs.PairOffsetLaws.{put_next, written-pair}
use Rattle.quadrant.specs.QuadrantPairs.{quadrant_setup, quadrant_raster, quadrant_offset}
use Rattle.four_quadrants.specs.FourOffsets.{four_offsets, coordinates, quadrant_at}

-- a quadrant's offset is at most as large as a pair's can be
pub quadrant-near : (places : List ℕ) (S : Setup) (first second : List ℕ) (q : Quadrant) (m : Offset) → S.s ≤ 8
    → m ≡ quadrant_offset (arranged places) S first second q → Near max_offset m
unfolding quadrant_offset pair_result
quadrant-near places S first second q m few e =
    rw e
    (near-more (2 ^ suc S.s - 1) max_offset _ (let p = pow_mono {i = suc S.s} {j = 9} (omega arith) in omega arith)
    (near-pair (arranged places) (near-arranged places) (rule_of S.exclusion) S.percentile S.s (quadrant_setup S).w (quadrant_setup S).h
    (grey_frame (quadrant_setup S).w (quadrant_raster S q first)) (grey_frame (quadrant_setup S).w (quadrant_raster S q second))))

-- the offset of number k of the four
abbrev pub offset_in : List Offset → Setup → List ℕ → List ℕ → ℕ → Offset
offset_in order S first second k = quadrant_offset order S first second (quadrant_at k)

-- the four in their array
pub quadrant-in : (k : ℕ) (d : Quadrant) → k < 4
    → get_or (Quadrant.UpperLeft ∷ Quadrant.UpperRight ∷ Quadrant.LowerLeft ∷ Quadrant.LowerRight ∷ []) k d ≡ quadrant_at k
quadrant-in zero d l = refl
quadrant-in (suc zero) d l = refl
quadrant-in (suc (suc zero)) d l = refl
quadrant-in (suc (suc (suc zero))) d l = refl
quadrant-in (suc (suc (suc (suc k)))) d l = absurd (omega arith)

-- nothing written, and all four
pub none_written : (order : List Offset) (S : Setup) (first second : List ℕ) (lent : List ℤ) → lent ≡ written_over (offset_list 0 (offset_in order S first second)) lent
unfolding offset_list
none_written order S first second lent = refl

pub all-four : (order : List Offset) (S : Setup) (first second : List ℕ) → offset_list 4 (offset_in order S first second) ≡ coordinates (four_offsets order S first second)
unfolding offset_list four_offsets
all-four order S first second = refl

-- one more, by the quadrant aligned and its offset put
pub next-written : (order : List Offset) (S : Setup) (first second : List ℕ) (lent before after : List ℤ) (k : ℕ) (q : Quadrant) (m : Offset) → k < 4 → 8 ≤ length lent
    → before ≡ written_over (offset_list k (offset_in order S first second)) lent → q ≡ quadrant_at k → m ≡ quadrant_offset order S first second q → after ≡ with_offset k m before
    → after ≡ written_over (offset_list (k + 1) (offset_in order S first second)) lent
next-written order S first second lent before after k q m l room sofar which offset put =
    put_next (offset_in order S first second) lent before k sofar (omega arith) m after (offset ∙ ap (quadrant_offset order S first second) which) put

-- what was written is read again: the four offsets, small ones
module _ (places : List ℕ) (S : Setup) (first second : List ℕ) (lent out : List ℤ) (few : S.s ≤ 8)
    (written : out ≡ written_over (coordinates (four_offsets (arranged places) S first second)) lent) where
  read : (j : ℕ) → j < 4 → pair_offset out j ≡ offset_in (arranged places) S first second j
  read j l =
      ap (λ (xs : List ℤ). pair_offset xs j) (written ∙ ap (λ (xs : List ℤ). written_over xs lent) (sym (all-four (arranged places) S first second)))
      ∙ written-pair 4 (offset_in (arranged places) S first second) lent j l

  pub four-small : SmallPairs 4 out
  four-small j l = quadrant-near places S first second (quadrant_at j) (pair_offset out j) few (read j l)

  pub four-read : pair_offset out 0 ∷ pair_offset out 1 ∷ pair_offset out 2 ∷ pair_offset out 3 ∷ [] ≡ four_offsets (arranged places) S first second
  unfolding four_offsets
  four-read = λ i. read 0 (omega arith) i ∷ read 1 (omega arith) i ∷ read 2 (omega arith) i ∷ read 3 (omega arith) i ∷ []
