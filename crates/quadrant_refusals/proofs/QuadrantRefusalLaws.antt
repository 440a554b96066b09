-- An accepted quadrants call: what it knows, and that a pair of a quadrant's size is accepted too.
use mathlib.Core.Path.{◌≡◌, refl}
use mathlib.Core.Bool.{Bool, false, ◌||◌}
use Prim.Native.Nat.{ℕ, ◌+◌, ◌/◌, ◌^◌, ◌≤◌}
use native.Mathlib.Nat.{le_refl}
use native.Mathlib.Omega.{arith}
use lib.Dec.{ltb}
use lib.Pow.{pow_pos}
use borrow.Author.Tests.{ltb-false, le-ltb, eq-eqb, ne_eqb}
use Rattle.rules.specs.Refusals.{◌when◌, ◌or_else◌, bad_side, bad_size, bad_halvings, too_small, bad_percentile, wrong_length, short, raster_length, counts_length, grey_needed, words_needed, pair_refusal}
use Rattle.rules.specs.Accepted.{SizeOk}
use Rattle.rules.specs.declared.Exclusion.{Exclusion}
use Rattle.rules.specs.Calls.{exclusion_refusal}
use Rattle.rules.proofs.RefusalLaws.{when-no, or_else-no, or_no, size_ok, length-is}
use Rattle.rules.proofs.AlignmentLaws.{pair_ok}
use Rattle.quadrant_refusals.specs.QuadrantRefusals.{numbers_needed, quadrants_refusal, QuadrantsOk}

-- no condition applies
pub record Unrefused (w h s excluded percentile first second offsets grey words : ℕ) : Type 0 where
  pub size : SizeOk w h
  pub halvings : 3 when bad_halvings s ≡ 0
  pub small : too_small (w / 2) (h / 2) s ≡ false
  pub exclusion : excluded ≡ 0
  pub percentiles : 8 when bad_percentile percentile ≡ 0
  pub exact1 : first ≡ raster_length w h
  pub exact2 : second ≡ raster_length w h
  pub room : numbers_needed ≤ offsets
  pub greys : grey_needed s (w / 2) (h / 2) ≤ grey
  pub bitmaps : words_needed (w / 2) (h / 2) ≤ words

pub unrefused : (w h s excluded percentile first second offsets grey words : ℕ)
    → quadrants_refusal w h s excluded percentile first second offsets grey words ≡ 0
    → Unrefused w h s excluded percentile first second offsets grey words
unfolding quadrants_refusal
unrefused w h s excluded percentile first second offsets grey words e =
    let wrong1 : Bool = wrong_length (raster_length w h) first in
    let wrong2 : Bool = wrong_length (raster_length w h) second in
    let short1 : Bool = short (grey_needed s (w / 2) (h / 2)) grey in
    let short2 : Bool = short (words_needed (w / 2) (h / 2)) words in
    let n11 : ℕ = 11 when (short1 || short2) in
    let n10 : ℕ = 10 when short numbers_needed offsets in
    let n9 : ℕ = 9 when (wrong1 || wrong2) in
    let n8 : ℕ = 8 when bad_percentile percentile in
    let n4 : ℕ = 4 when too_small (w / 2) (h / 2) s in
    let n3 : ℕ = 3 when bad_halvings s in
    let a = or_else-no (2 when bad_size w h) (n3 or_else n4 or_else excluded or_else n8 or_else n9 or_else n10 or_else n11) e in
    let b = or_else-no n3 (n4 or_else excluded or_else n8 or_else n9 or_else n10 or_else n11) a.1 in
    let c = or_else-no n4 (excluded or_else n8 or_else n9 or_else n10 or_else n11) b.1 in
    let d = or_else-no excluded (n8 or_else n9 or_else n10 or_else n11) c.1 in
    let f = or_else-no n8 (n9 or_else n10 or_else n11) d.1 in
    let g = or_else-no n9 (n10 or_else n11) f.1 in
    let i = or_else-no n10 n11 g.1 in
    let q = or_no wrong1 wrong2 (when-no 9 (wrong1 || wrong2) (omega arith) g.0) in
    let m = or_no short1 short2 (when-no 11 (short1 || short2) (omega arith) i.1) in
    record {
      size = size_ok w h a.0;
      halvings = b.0;
      small = when-no 4 (too_small (w / 2) (h / 2) s) (omega arith) c.0;
      exclusion = d.0;
      percentiles = f.0;
      exact1 = length-is (raster_length w h) first q.0;
      exact2 = length-is (raster_length w h) second q.1;
      room = ltb-false offsets numbers_needed (when-no 10 (short numbers_needed offsets) (omega arith) i.0);
      greys = ltb-false grey (grey_needed s (w / 2) (h / 2)) m.0;
      bitmaps = ltb-false words (words_needed (w / 2) (h / 2)) m.1;
    }

-- both sides that the halvings allow are sides of a frame
half-size : (w h s : ℕ) → SizeOk w h → too_small (w / 2) (h / 2) s ≡ false → bad_size (w / 2) (h / 2) ≡ false
unfolding too_small bad_size bad_side
half-size w h s k e =
    let least : ℕ = 2 ^ (s + 2) in
    let t = or_no (ltb (w / 2) least) (ltb (h / 2) least) e in
    let a = ltb-false (w / 2) least t.0 in
    let b = ltb-false (h / 2) least t.1 in
    let p = pow_pos (s + 2) in
    rw (
      ne_eqb (w / 2) 0 (λ z. omega arith),
      le-ltb 4096 (w / 2) (let l = k.width in omega arith),
      ne_eqb (h / 2) 0 (λ z. omega arith),
      le-ltb 4096 (h / 2) (let l = k.height in omega arith),
    )

-- "cropped and aligned as a pair": a pair of a quadrant's size, in buffers and memory as long as it needs, is accepted
pub pair-accepted : (w h s excluded percentile first second offsets grey words counts compared memory bitmaps : ℕ)
    → quadrants_refusal w h s excluded percentile first second offsets grey words ≡ 0
    → counts_length s ≤ counts → counts_length s ≤ compared → grey_needed s (w / 2) (h / 2) ≤ memory → words_needed (w / 2) (h / 2) ≤ bitmaps
    → pair_refusal (w / 2) (h / 2) s excluded percentile (raster_length (w / 2) (h / 2)) (raster_length (w / 2) (h / 2)) counts compared memory bitmaps ≡ 0
unfolding pair_refusal
pair-accepted w h s excluded percentile first second offsets grey words counts compared memory bitmaps e room1 room2 room3 room4 =
    let k = unrefused w h s excluded percentile first second offsets grey words e in
    rw (
      half-size w h s k.size k.small,
      k.halvings,
      k.small,
      k.exclusion,
      k.percentiles,
      eq-eqb (raster_length (w / 2) (h / 2)) (raster_length (w / 2) (h / 2)) refl,
      le-ltb counts (counts_length s) room1,
      le-ltb compared (counts_length s) room2,
      le-ltb memory (grey_needed s (w / 2) (h / 2)) room3,
      le-ltb bitmaps (words_needed (w / 2) (h / 2)) room4,
    )

pub quadrants-ok : (w h s : ℕ) (exclusion : Exclusion) (percentile first second offsets grey words : ℕ)
    → quadrants_refusal w h s (exclusion_refusal exclusion) percentile first second offsets grey words ≡ 0
    → QuadrantsOk w h s exclusion percentile first second grey words
quadrants-ok w h s exclusion percentile first second offsets grey words e =
    let excluded : ℕ = exclusion_refusal exclusion in
    let k = unrefused w h s excluded percentile first second offsets grey words e in
    let raster : ℕ = raster_length (w / 2) (h / 2) in
    record {
      size = k.size;
      exact1 = k.exact1;
      exact2 = k.exact2;
      quadrant = pair_ok (w / 2) (h / 2) s exclusion percentile raster raster (counts_length s) (counts_length s) grey words
          (pair-accepted w h s excluded percentile first second offsets grey words (counts_length s) (counts_length s) grey words e (le_refl (counts_length s)) (le_refl (counts_length s)) k.greys k.bitmaps);
    }
