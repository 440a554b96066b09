-- Laws of the halving at places of a flat list.
use mathlib.Core.Path.{◌≡◌, sym, ◌∙◌}
use mathlib.Core.List.{List}
use Prim.Native.Nat.{ℕ, ◌+◌, ◌*◌, ◌-◌, ◌/◌, ◌≤◌, ◌<◌}
use native.Mathlib.Nat.{one-mul, add-mul, mul_comm, mul-le-mul_right}
use native.Mathlib.Omega.{arith}
use Rattle.rules.specs.Frames.{frame_of}
use Rattle.rules.specs.Greys.{halved}
use Rattle.rules.specs.Buffers.{RowAt, FrameAt}
use Rattle.rules.proofs.FrameLaws.{frame-more, row-ext, row-join}
use Rattle.rules.specs.Buffers.{Filled}
use Rattle.half_block.specs.HalfPlaces.{second_at, even_at, half_at}

-- every other second smallest is a result
pub even-half : (l all : List ℕ) (top bottom : ℕ) → Filled (second_at l top bottom) 64 all → (k : ℕ) → k < 32 → even_at all k ≡ half_at l top bottom k
unfolding second_at even_at half_at
even-half l all top bottom filled k m =
    let a : top + 2 * k + 1 ≡ top + (2 * k + 1) = omega arith in
    let b : bottom + 2 * k + 1 ≡ bottom + (2 * k + 1) = omega arith in
    rw (sym a, sym b) (filled.done (2 * k) (omega arith))

-- The rule of a row, from its place k on.
pub half-on : (l : List ℕ) (top bottom k j : ℕ) → half_at l (top + 2 * k) (bottom + 2 * k) j ≡ half_at l top bottom (k + j)
unfolding half_at
half-on l top bottom k j =
    let a : top + 2 * k + 2 * j ≡ top + 2 * (k + j) = omega arith in
    let b : top + 2 * k + (2 * j + 1) ≡ top + (2 * (k + j) + 1) = omega arith in
    let c : bottom + 2 * k + 2 * j ≡ bottom + 2 * (k + j) = omega arith in
    let d : bottom + 2 * k + (2 * j + 1) ≡ bottom + (2 * (k + j) + 1) = omega arith in
    rw (a, b, c, d)

-- one more block of a row
pub block_more : (l all before mid after : List ℕ) (top bottom to b : ℕ)
    → RowAt to (half_at l top bottom) before (32 * b) mid
    → ((k : ℕ) → k < 32 → even_at all k ≡ half_at l (top + 2 * (32 * b)) (bottom + 2 * (32 * b)) k)
    → RowAt (to + 32 * b) (even_at all) mid 32 after
    → RowAt to (half_at l top bottom) before (32 * (b + 1)) after
block_more l all before mid after top bottom to b a results r =
    let e : 32 * b + 32 ≡ 32 * (b + 1) = omega arith in
    rw e at
    (row-join to (half_at l top bottom) (even_at all) before mid after (32 * b) 32 a r
    (λ j m. results j m ∙ half-on l top bottom (32 * b) j))

-- the rest of a row, after its first k results
pub rest_more : (l before mid after : List ℕ) (top bottom to k n : ℕ) → k ≤ n
    → RowAt to (half_at l top bottom) before k mid
    → RowAt (to + k) (half_at l (top + 2 * k) (bottom + 2 * k)) mid (n - k) after
    → RowAt to (half_at l top bottom) before n after
rest_more l before mid after top bottom to k n m a r =
    let e : k + (n - k) ≡ n = omega arith in
    rw e at
    (row-join to (half_at l top bottom) (half_at l (top + 2 * k) (bottom + 2 * k)) before mid after k (n - k) a r
    (λ j i. half-on l top bottom k j))

-- two rows of a frame of width w give a row of its half
pub half-row : (l : List ℕ) (w x y : ℕ) → half_at l (2 * y * w) (2 * y * w + w) x ≡ halved (frame_of w l) x y
unfolding half_at halved frame_of
half-row l w x y =
    let e : (2 * y + 1) * w ≡ 2 * y * w + w = rw (add-mul (2 * y) 1 w, one-mul w) in
    rw e

pub rows_fit : (w h y : ℕ) → y < h / 2 → 2 * y * w + w + w ≤ w * h
rows_fit w h y l =
    let a = mul-le-mul_right {m = 2 * y + 2} {n = h} w (omega arith) in
    let b = add-mul (2 * y) 2 w in
    let c = mul_comm w h in
    omega arith

-- one more row of a half
pub half-more : (l before mid after : List ℕ) (to w y : ℕ)
    → FrameAt to (w / 2) (halved (frame_of w l)) before y mid
    → RowAt (to + y * (w / 2)) (half_at l (2 * y * w) (2 * y * w + w)) mid (w / 2) after
    → FrameAt to (w / 2) (halved (frame_of w l)) before (y + 1) after
half-more l before mid after to w y a r =
    let top : ℕ = 2 * y * w in
    frame-more to (w / 2) (halved (frame_of w l)) before y mid after a
    (row-ext (to + y * (w / 2)) (half_at l top (top + w)) (λ x. halved (frame_of w l) x y) mid after (w / 2) (λ x m. half-row l w x y) r)
