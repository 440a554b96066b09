-- The rule of the table of bit counts, and the 1 bits of a word byte by byte.
use mathlib.Core.Path.{◌≡◌, sym, ap, ◌∙◌}
use mathlib.Core.Bool.{Bool}
use mathlib.Core.List.{List}
use Prim.Native.Nat.{ℕ, ◌+◌, ◌/◌, ◌%◌, ◌^◌, ◌≤◌}
use native.Mathlib.Nat.{mod-lt}
use native.Mathlib.Omega.{arith}
use lib.Dec.{T, eqb, eqb→eq}
use lib.ListN.{length, get_or}
use Rattle.rules.specs.Sums.{sum}
use Rattle.rules.specs.Bitmaps.{bit}
use Rattle.rules.proofs.SumLaws.{sum-ext, sum-split, sum-le}
use Rattle.words.proofs.BitLaws.{bit-lt, bit-shr, bit-mod-low}
use Rattle.popcount.specs.Table.{CountsBits}
use Rattle.popcount.proofs.EntryLaws.{every, at}

-- the test of one entry
abbrev pub right : ℕ → ℕ → Bool
right b count = eqb count (sum 8 (bit b))

pub counts_bits : (table : List ℕ) → length table ≡ 256 → T (every right 0 table) → CountsBits table
counts_bits table e t = record { entry = λ b l. eqb→eq (get_or table b 0) (sum 8 (bit b)) (at right table t b (omega arith)) }

-- the entry of a word's lowest byte
pub byte-entry : (table : List ℕ) → CountsBits table → (v : ℕ) → (get_or table (v % 256) 0 ≡ sum 8 (bit v)) × (get_or table (v % 256) 0 ≤ 8)
byte-entry table c v =
    let e : get_or table (v % 256) 0 ≡ sum 8 (bit v) =
    c.entry (v % 256) (mod-lt v (omega arith)) ∙ sum-ext 8 (bit (v % 256)) (bit v) (λ i l. bit-mod-low v 8 i l) in
    let a = sum-le 8 1 (bit v) (λ i l. let b = bit-lt v i in omega arith) in
    (e, omega arith)

-- one byte more of a word
byte_more : (v k : ℕ) → sum (k + 8) (bit v) ≡ sum k (bit v) + sum 8 (bit (v / 2 ^ k))
byte_more v k =
    sum-split k 8 (bit v)
    ∙ ap (λ (s : ℕ). sum k (bit v) + s) (sum-ext 8 (λ i. bit v (k + i)) (bit (v / 2 ^ k)) (λ i l. sym (bit-shr v k i)))

pub word_bytes : (v : ℕ)
    → sum 8 (bit v) + sum 8 (bit (v / 2 ^ 8)) + sum 8 (bit (v / 2 ^ 16)) + sum 8 (bit (v / 2 ^ 24))
    + sum 8 (bit (v / 2 ^ 32)) + sum 8 (bit (v / 2 ^ 40)) + sum 8 (bit (v / 2 ^ 48)) + sum 8 (bit (v / 2 ^ 56))
    ≡ sum 64 (bit v)
word_bytes v =
    omega (arith, byte_more v 8, byte_more v 16, byte_more v 24, byte_more v 32, byte_more v 40, byte_more v 48, byte_more v 56)
