-- Laws of a block's bytes brought together by colour.
use mathlib.Core.Path.{◌≡◌, ap, ◌∙◌}
use mathlib.Core.List.{List}
use Prim.Native.Nat.{ℕ, ◌+◌, ◌*◌, ◌/◌, ◌%◌, ◌<◌}
use native.Mathlib.Omega.{arith}
use lib.ListN.{length, get_or, set, length-set}
use Rattle.rules.specs.Buffers.{Filled}
use Rattle.rules.proofs.FilledLaws.{filled_more}
use Rattle.grey_block.specs.GreyBlocks.{byte_from, shuffled_at, plane_at}

-- a shuffle's two numbers of turn k
pub shuffled-even : (l : List ℕ) (k : ℕ) → get_or l k 0 ≡ shuffled_at l (2 * k)
unfolding shuffled_at
shuffled-even l k =
    let e : 2 * k / 2 + 48 * (2 * k % 2) ≡ k = omega arith in
    rw e

pub shuffled-odd : (l : List ℕ) (k : ℕ) → get_or l (48 + k) 0 ≡ shuffled_at l (2 * k + 1)
unfolding shuffled_at
shuffled-odd l k =
    let e : (2 * k + 1) / 2 + 48 * ((2 * k + 1) % 2) ≡ 48 + k = omega arith in
    rw e

-- two more numbers of a list
pub two-more : (f : ℕ → ℕ) (n : ℕ) (l : List ℕ) (a b : ℕ) → 2 * n + 1 < length l → Filled f (2 * n) l → a ≡ f (2 * n) → b ≡ f (2 * n + 1)
    → Filled f (2 * (n + 1)) (set (set l (2 * n) a) (2 * n + 1) b)
two-more f n l a b room r d e =
    let z : 2 * n + 1 + 1 ≡ 2 * (n + 1) = omega arith in
    let k = length-set l (2 * n) a in
    rw z at
    (filled_more f (2 * n + 1) (set l (2 * n) a) b (omega arith) (filled_more f (2 * n) l a (omega arith) r d) e)

-- where a shuffle takes its byte i from
abbrev source : ℕ → ℕ
source i = i / 2 + 48 * (i % 2)

source_in : (i : ℕ) → i < 96 → source i < 96
source_in i m = omega arith

-- where two, three, four and five of them do
two-shuffles : (i : ℕ) → source (source i) ≡ 24 * (i % 4) + i / 4
two-shuffles i = omega arith

three-shuffles : (i : ℕ) → 24 * (source i % 4) + source i / 4 ≡ 12 * (i % 8) + i / 8
three-shuffles i = omega arith

four-shuffles : (i : ℕ) → 12 * (source i % 8) + source i / 8 ≡ 6 * (i % 16) + i / 16
four-shuffles i = omega arith

five-shuffles : (i : ℕ) → 6 * (source i % 16) + source i / 16 ≡ 3 * (i % 32) + i / 32
five-shuffles i = omega arith

-- five shuffles bring each colour's bytes together
pub planes_filled : (all one two three four five : List ℕ)
    → Filled (shuffled_at all) 96 one
    → Filled (shuffled_at one) 96 two
    → Filled (shuffled_at two) 96 three
    → Filled (shuffled_at three) 96 four
    → Filled (shuffled_at four) 96 five
    → Filled (plane_at all) 96 five
unfolding shuffled_at plane_at
planes_filled all one two three four five a b c d e = record { done = found }
  where
    found : (i : ℕ) → i < 96 → get_or five i 0 ≡ get_or all (3 * (i % 32) + i / 32) 0
    found i m =
        let i1 = source i in
        let i2 = source i1 in
        let i3 = source i2 in
        let i4 = source i3 in
        let m1 = source_in i m in
        let m2 = source_in i1 m1 in
        let m3 = source_in i2 m2 in
        let m4 = source_in i3 m3 in
        e.done i m ∙ d.done i1 m1 ∙ c.done i2 m2 ∙ b.done i3 m3 ∙ a.done i4 m4
        ∙ ap (λ (j : ℕ). get_or all j 0) (two-shuffles i3 ∙ three-shuffles i2 ∙ four-shuffles i1 ∙ five-shuffles i)

-- a byte that lies by colour, by its place in the raster
pub colour-is : (l all colours : List ℕ) (from : ℕ) → Filled (byte_from l from) 96 all → Filled (plane_at all) 96 colours
    → (i p : ℕ) → i < 96 → from + (3 * (i % 32) + i / 32) ≡ p → get_or colours i 0 ≡ get_or l p 0
unfolding byte_from plane_at
colour-is l all colours from bytes planes i p m e =
    planes.done i m ∙ bytes.done (3 * (i % 32) + i / 32) (omega arith) ∙ ap (λ (j : ℕ). get_or l j 0) e
