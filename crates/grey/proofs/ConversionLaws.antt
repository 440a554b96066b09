-- Laws of the grey conversion, block by block.
use mathlib.Core.Path.{◌≡◌, refl, ap, ◌∙◌}
use mathlib.Core.List.{List}
use Prim.Native.Nat.{ℕ, ◌+◌, ◌*◌, ◌-◌, ◌≤◌, ◌<◌}
use native.Mathlib.Omega.{arith}
use lib.ListN.{length, get_or, take, drop, length-take, length-drop}
use borrow.Author.Rules.{rules, part_to_end}
use borrow.Rule.Slice.PartMut.{put_mid}
use Rattle.std.proofs.lemmas.List.{places}
use Rattle.rules.specs.Buffers.{RowAt, Filled}
use Rattle.rules.proofs.FrameLaws.{row-join}
use Rattle.grey_block.specs.GreyBlocks.{byte_from, plane_at, weighed_at}
use Rattle.grey_block.proofs.ColourLaws.{colour-is}
use Rattle.grey.specs.GreyPlaces.{grey_at, grey_from, number_at}

-- a block's numbers are the grey values of its pixels
pub block-grey : (l all colours block : List ℕ) (from : ℕ)
    → Filled (byte_from l from) 96 all
    → Filled (plane_at all) 96 colours
    → Filled (weighed_at colours) 32 block
    → (k : ℕ) → k < 32 → number_at block k ≡ grey_from l from k
unfolding weighed_at number_at grey_from
block-grey l all colours block from bytes planes greys k m =
    let r = colour-is l all colours from bytes planes k (from + 3 * k) (omega arith) (omega arith) in
    let g = colour-is l all colours from bytes planes (32 + k) (from + 3 * k + 1) (omega arith) (omega arith) in
    let b = colour-is l all colours from bytes planes (64 + k) (from + 3 * k + 2) (omega arith) (omega arith) in
    greys.done k m ∙ rw (r, g, b)

grey-on : (l : List ℕ) (from k j : ℕ) → from ≡ 3 * k → grey_from l from j ≡ grey_at l (k + j)
unfolding grey_from grey_at
grey-on l from k j o =
    let a : from + 3 * j ≡ 3 * (k + j) = omega arith in
    rw a

-- a block copied into a part of a list is a row of its numbers
pub row-copied : (to n k : ℕ) (before block part : List ℕ) → to + n ≤ length before → k ≡ n → part ≡ block
    → length part ≡ length (take k (drop to before))
    → RowAt to (number_at block) before n (put_mid to k before part)
unfolding number_at
row-copied to n k before block part room whole same size = rw same (row (omega (arith, ap length same, size, length-take k (drop to before), length-drop to before)))
  where
    row : length block ≡ n → RowAt to (λ i. get_or block i 0) before n (put_mid to k before block)
    row e = record {
      len = search (rules, places);
      under = λ m l. search (rules, places);
      done = λ j l. search (rules, places);
      over = λ m l. search (rules, places);
    }

-- one more block of a raster
pub grey-more : (l block before mid after : List ℕ) (to b : ℕ)
    → RowAt to (grey_at l) before (32 * b) mid
    → ((k : ℕ) → k < 32 → number_at block k ≡ grey_from l (96 * b) k)
    → RowAt (to + 32 * b) (number_at block) mid 32 after
    → RowAt to (grey_at l) before (32 * (b + 1)) after
grey-more l block before mid after to b a greys r =
    let e : 32 * b + 32 ≡ 32 * (b + 1) = omega arith in
    rw e at
    (row-join to (grey_at l) (number_at block) before mid after (32 * b) 32 a r
    (λ j m. greys j m ∙ grey-on l (96 * b) (32 * b) j (omega arith)))

-- the rest of a raster, after its first k pixels
pub grey-rest : (l before mid after : List ℕ) (to k n : ℕ) → k ≤ n
    → RowAt to (grey_at l) before k mid
    → RowAt (to + k) (grey_from l (3 * k)) mid (n - k) after
    → RowAt to (grey_at l) before n after
grey-rest l before mid after to k n m a r =
    let e : k + (n - k) ≡ n = omega arith in
    rw e at
    (row-join to (grey_at l) (grey_from l (3 * k)) before mid after k (n - k) a r
    (λ j i. grey-on l (3 * k) k j refl))

-- a raster from a place on has room for what is read there
pub part_room : (raster : List ℕ) (from n : ℕ) → from + n ≤ length raster → n ≤ length (take (length raster - from) (drop from raster))
part_room raster from n l = rw (part_to_end raster from) (let a = length-drop from raster in omega arith)
