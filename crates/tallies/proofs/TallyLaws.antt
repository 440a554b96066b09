-- Sums of two counts in one number.
use mathlib.Core.Path.{◌≡◌, refl}
use Prim.Native.Nat.{ℕ, zero, suc, ◌+◌, ◌*◌, ◌/◌, ◌%◌, ◌≤◌, ◌<◌}
use native.Mathlib.Omega.{arith}
use Rattle.rules.specs.Sums.{sum, row_sum, sum_pixels}
use Rattle.rules.specs.Bitmaps.{bit}
use Rattle.rules.proofs.SumLaws.{sum-ext, sum-zero, sum-le}
use Rattle.words.proofs.BitLaws.{bit-zero}
use Rattle.popcount.specs.RowCounts.{Adds}
use Rattle.tallies.specs.Tallies.{tally, both, WordsOf}
use Rattle.tallies.specs.Held.{held}
use Rattle.tallies.specs.declared.Words.{Words}
use Rattle.popcount.proofs.RowLaws.{word-adds, seven-adds, adds-more}

pub sum_both : (n : ℕ) (f g : ℕ → ℕ) → sum n (both f g) ≡ tally (sum n f) (sum n g)
unfolding sum
sum_both zero f g = refl
sum_both (suc n) f g = let a = sum_both n f g in omega arith

pub pixels-both : (w h : ℕ) (f g : ℕ → ℕ → ℕ) → sum_pixels w h (λ x y. tally (f x y) (g x y)) ≡ tally (sum_pixels w h f) (sum_pixels w h g)
unfolding sum_pixels
pixels-both w h f g =
    let a = sum-ext h (row_sum w (λ x y. tally (f x y) (g x y))) (both (row_sum w f) (row_sum w g)) (λ y l. sum_both w (λ x. f x y) (λ x. g x y)) in
    let b = sum_both h (row_sum w f) (row_sum w g) in
    omega arith

pub adds-both : (f g : ℕ → ℕ) (first end count compared : ℕ) → Adds f first end count → Adds g first end compared → Adds (both f g) first end (tally count compared)
adds-both f g first end count compared p q = let a = sum_both (first * 64) f g in let b = sum_both (end * 64) f g in omega arith

-- one word more
pub word-both : (f g : ℕ → ℕ) (k : ℕ) (v : Words) (r : ℕ) → WordsOf f g k v → r ≡ tally (sum 64 (bit v.differing)) (sum 64 (bit v.kept)) → Adds (both f g) k (k + 1) r
word-both f g k v r p e =
    rw e (adds-both f g k (k + 1) (sum 64 (bit v.differing)) (sum 64 (bit v.kept))
    (word-adds f k v.differing (sum 64 (bit v.differing)) p.0 refl) (word-adds g k v.kept (sum 64 (bit v.kept)) p.1 refl))

-- seven words more
pub seven-both : (f g : ℕ → ℕ) (k : ℕ) (a b c d e i h : Words) (r : ℕ)
    → WordsOf f g k a → WordsOf f g (k + 1) b → WordsOf f g (k + 2) c → WordsOf f g (k + 3) d → WordsOf f g (k + 4) e → WordsOf f g (k + 5) i → WordsOf f g (k + 6) h
    → r ≡ tally
    (sum 64 (bit a.differing) + sum 64 (bit b.differing) + sum 64 (bit c.differing) + sum 64 (bit d.differing)
    + sum 64 (bit e.differing) + sum 64 (bit i.differing) + sum 64 (bit h.differing))
    (sum 64 (bit a.kept) + sum 64 (bit b.kept) + sum 64 (bit c.kept) + sum 64 (bit d.kept) + sum 64 (bit e.kept) + sum 64 (bit i.kept) + sum 64 (bit h.kept))
    → Adds (both f g) k (k + 7) r
seven-both f g k a b c d e i h r p0 p1 p2 p3 p4 p5 p6 o =
    rw o (adds-both f g k (k + 7) _ _
    (seven-adds f k a.differing b.differing c.differing d.differing e.differing i.differing h.differing _
    p0.0 p1.0 p2.0 p3.0 p4.0 p5.0 p6.0 refl)
    (seven-adds g k a.kept b.kept c.kept d.kept e.kept i.kept h.kept _ p0.1 p1.1 p2.1 p3.1 p4.1 p5.1 p6.1 refl))

-- a counter that has counted nothing
pub nothing-held : held (record { ones = 0; twos = 0; fours = 0; eights = 0 }) ≡ 0
nothing-held = let z = sum-zero 64 (bit 0) (λ i l. bit-zero i) in omega arith

-- what a pixel adds at most
pub both-le : (f g : ℕ → ℕ) → ((x : ℕ) → f x < 2) → ((x : ℕ) → g x < 2) → (x : ℕ) → both f g x ≤ 4294967297
both-le f g p q x = let a = p x in let b = q x in omega arith

pub tally-le : (n : ℕ) (f : ℕ → ℕ) → ((x : ℕ) → f x ≤ 4294967297) → sum n f ≤ n * 4294967297
tally-le n f b = sum-le n 4294967297 f (λ x l. b x)

pub tally-adds-le : (f : ℕ → ℕ) (first end r : ℕ) → ((x : ℕ) → f x ≤ 4294967297) → Adds f first end r → r ≤ end * 64 * 4294967297
tally-adds-le f first end r b a = let c = tally-le (end * 64) f b in omega arith

pub tally-next-le : (f : ℕ → ℕ) (first k end r more : ℕ) → ((x : ℕ) → f x ≤ 4294967297) → Adds f first k r → Adds f k end more → r + more ≤ end * 64 * 4294967297
tally-next-le f first k end r more b p q = tally-adds-le f first end (r + more) b (adds-more f first k end r more p q)

-- the two counts of one number
pub tally-split : (count compared n r s : ℕ) → count < 4294967296 → n ≡ tally count compared → r ≡ n % 4294967296 → s ≡ n / 4294967296 → (r ≡ count) × (s ≡ compared)
tally-split count compared n r s l e p q = (omega arith, omega arith)
