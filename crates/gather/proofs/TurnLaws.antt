-- Exchanges of bits, and the three that turn 8 by 8 bits.
use mathlib.Core.Path.{◌≡◌, refl, sym, ap, ap₂, ◌∙◌}
use mathlib.Core.Bool.{Bool, true, false, cond, ◌&&◌, not, false≢true}
use mathlib.Core.Logic.{⊎_elim}
use mathlib.Core.List.{List}
use Prim.Native.Nat.{ℕ, zero, suc, ◌+◌, ◌*◌, ◌-◌, ◌/◌, ◌%◌, ◌^◌, ◌≤◌, ◌<◌, min}
use native.Mathlib.Nat.{min-zero}
use native.Mathlib.Omega.{arith}
use lib.Bits.{bit_xor, differ}
use lib.Dec.{ltb, leb, eqb}
use lib.ListN.{length, get_or, set, take, drop}
use lib.Seq.{get_or-drop, get_or-take}
use borrow.Rule.Slice.PartMut.{put_mid}
use borrow.Author.Tests.{lt-leb, le-leb, ltb-true, eqb-true}
use Rattle.std.proofs.lemmas.Grind.{common_steps}
use Rattle.rules.specs.Sums.{gate}
use Rattle.rules.specs.Bitmaps.{bit}
use Rattle.rules.specs.Buffers.{RowAt}
use Rattle.rules.proofs.SumLaws.{order}
use Rattle.rules.proofs.FrameLaws.{row_more}
use Rattle.words.proofs.BitLaws.{bit-and, bit-xor, bit-shr, bit-lt, bit-shl64-high, bit-shl64-low, word-is}
use Rattle.words.proofs.PartLaws.{row-put}
use Rattle.gather.specs.Gathers.{by_columns, turned_at, exchange_bits, exchanged}
use Rattle.rules.proofs.CaseLaws.{and_both, all, all-at}

differ-zero : (a : ℕ) → differ a 0 ≡ a
differ-zero zero = refl
differ-zero (suc a) = refl

differ_comm : (a b : ℕ) → differ a b ≡ differ b a
differ_comm zero b = sym (differ-zero b)
differ_comm (suc a) zero = refl
differ_comm (suc a) (suc b) = differ_comm a b

-- a, changed where it differs from b, is b
differ_back : (a b : ℕ) → a < 2 → b < 2 → differ a (min (differ a b) 1) ≡ b
differ_back zero zero k l = refl
differ_back zero (suc zero) k l = refl
differ_back (suc zero) zero k l = refl
differ_back (suc zero) (suc zero) k l = refl
differ_back zero (suc (suc b)) k l = absurd (omega arith)
differ_back (suc zero) (suc (suc b)) k l = absurd (omega arith)
differ_back (suc (suc a)) b k l = absurd (omega arith)

-- bit p of an exchange, from y's bits a at p, b above and c below, and the mask's bits u at p and v below
mix : (a b c u v : ℕ) → a < 2 → b < 2 → c < 2 → u < 2 → v < 2 → not (eqb u 1 && eqb v 1) ≡ true
    → differ (differ a (min (differ a b) u)) (min (differ c a) v) ≡ cond (eqb u 1) b (cond (eqb v 1) c a)
mix a b c zero zero ka kb kc ku kv e =
    ap₂ differ (ap (differ a) (min-zero (differ a b)) ∙ differ-zero a) (min-zero (differ c a)) ∙ differ-zero a
mix a b c zero (suc zero) ka kb kc ku kv e =
    ap₂ differ (ap (differ a) (min-zero (differ a b)) ∙ differ-zero a) (ap (λ (d : ℕ). min d 1) (differ_comm c a)) ∙ differ_back a c ka kc
mix a b c (suc zero) zero ka kb kc ku kv e = ap₂ differ (differ_back a b ka kb) (min-zero (differ c a)) ∙ differ-zero b
mix a b c (suc zero) (suc zero) ka kb kc ku kv e = absurd (false≢true e)
mix a b c (suc (suc u)) v ka kb kc ku kv e = absurd (omega arith)
mix a b c zero (suc (suc v)) ka kb kc ku kv e = absurd (omega arith)
mix a b c (suc zero) (suc (suc v)) ka kb kc ku kv e = absurd (omega arith)

-- the mask's bit for the exchange of bit p with the one s below
under : ℕ → ℕ → ℕ → ℕ
under mask s p = gate (leb s p) (bit mask (p - s))

-- the bit of y that an exchange puts at bit p, where the mask names p at most once
from : ℕ → ℕ → ℕ → ℕ
from mask s p = cond (eqb (bit mask p) 1) (s + p) (cond (eqb (under mask s p) 1) (p - s) p)

once : ℕ → ℕ → ℕ → Bool
once mask s p = not (eqb (bit mask p) 1 && eqb (under mask s p) 1)

bit-cond : (y : ℕ) (c d : Bool) (i j k : ℕ) → cond c (bit y i) (cond d (bit y j) (bit y k)) ≡ bit y (cond c i (cond d j k))
bit-cond y true d i j k = refl
bit-cond y false true i j k = refl
bit-cond y false false i j k = refl

gate-lt : (c : Bool) (v i : ℕ) → gate c (bit v i) < 2
gate-lt true v i = bit-lt v i
gate-lt false v i = omega arith

exchange-bit : (mask s y p : ℕ) → p < 64 → once mask s p ≡ true → bit (exchanged mask s y) p ≡ bit y (from mask s p)
unfolding exchanged from once under
exchange-bit mask s y p l e =
    bit-xor (bit_xor y t) (t * 2 ^ s % 2 ^ 64) p
    ∙ ap₂ differ (bit-xor y t p ∙ ap (differ (bit y p)) (t-bit p)) (⊎_elim low_end high_end (order p s))
    ∙ mix (bit y p) (bit y (s + p)) (bit y (p - s)) (bit mask p) (under mask s p) (bit-lt y p) (bit-lt y (s + p)) (bit-lt y (p - s))
    (bit-lt mask p) (gate-lt (leb s p) mask (p - s)) e
    ∙ bit-cond y (eqb (bit mask p) 1) (eqb (under mask s p) 1) (s + p) (p - s) p
  where
    t : ℕ
    t = exchange_bits mask s y

    t-bit : (q : ℕ) → bit t q ≡ min (differ (bit y q) (bit y (s + q))) (bit mask q)
    t-bit q =
        bit-and (bit_xor y (y / 2 ^ s)) mask q
        ∙ ap (λ (u : ℕ). min u (bit mask q)) (bit-xor y (y / 2 ^ s) q ∙ ap (differ (bit y q)) (bit-shr y s q))

    low_end : p < s → bit (t * 2 ^ s % 2 ^ 64) p ≡ min (differ (bit y (p - s)) (bit y p)) (under mask s p)
    low_end k =
        bit-shl64-low t s p k
        ∙ sym (ap (λ c. min (differ (bit y (p - s)) (bit y p)) (gate c (bit mask (p - s)))) (lt-leb s p k) ∙ min-zero (differ (bit y (p - s)) (bit y p)))

    high_end : s ≤ p → bit (t * 2 ^ s % 2 ^ 64) p ≡ min (differ (bit y (p - s)) (bit y p)) (under mask s p)
    high_end k =
        let d : s + (p - s) ≡ p = omega arith in
        bit-shl64-high t s p k l
        ∙ t-bit (p - s)
        ∙ ap (λ (q : ℕ). min (differ (bit y (p - s)) (bit y q)) (bit mask (p - s))) d
        ∙ sym (ap (λ c. min (differ (bit y (p - s)) (bit y p)) (gate c (bit mask (p - s)))) (le-leb s p k))

-- Three exchanges turn columns into rows: of single bits, of squares of 2 by 2, of squares of 4 by 4.
abbrev ones : ℕ
ones = 0x00AA_00AA_00AA_00AA

abbrev twos : ℕ
twos = 0x0000_CCCC_0000_CCCC

abbrev fours : ℕ
fours = 0x0000_0000_F0F0_F0F0

abbrev turned : ℕ → ℕ
turned y = exchanged fours 28 (exchanged twos 14 (exchanged ones 7 y))

-- the bits that the third, the second and the first exchange take bit p from
third : ℕ → ℕ
third p = from fours 28 p

second : ℕ → ℕ
second p = from twos 14 (third p)

first : ℕ → ℕ
first p = from ones 7 (second p)

turns : ℕ → Bool
turns p =
    once fours 28 p
    && ((ltb (third p) 64 && once twos 14 (third p))
    && ((ltb (second p) 64 && once ones 7 (second p)) && eqb (first p) (8 * (p % 8) + p / 8)))

all-turn : all 64 turns ≡ true
unfolding all turns third second first from once under bit
all-turn = refl

turned_bit : (y p : ℕ) → p < 64 → bit (turned y) p ≡ bit y (8 * (p % 8) + p / 8)
unfolding turns third second first
turned_bit y p l =
    let a = and_both _ _ (all-at 64 turns all-turn p l) in
    let b = and_both _ _ a.1 in
    let c = and_both _ _ b.0 in
    let d = and_both _ _ b.1 in
    let e = and_both _ _ d.0 in
    exchange-bit fours 28 _ p l a.0
    ∙ exchange-bit twos 14 _ (third p) (ltb-true (third p) 64 c.0) c.1
    ∙ exchange-bit ones 7 y (second p) (ltb-true (second p) 64 e.0) e.1
    ∙ ap (λ (q : ℕ). bit y q) (eqb-true (first p) (8 * (p % 8) + p / 8) d.1)

pub turned-is : (y v : ℕ) → v < 2 ^ 64 → v ≡ turned y → v ≡ by_columns (bit y)
unfolding by_columns
turned-is y v l e = word-is v (λ i. bit y (8 * (i % 8) + i / 8)) l (λ i k. ap (λ (u : ℕ). bit u i) e ∙ turned_bit y i k)

-- one word more turned in its place
pub turn-word : (k : ℕ) (before after : List ℕ) (v : ℕ) → k < length before → v ≡ by_columns (bit (get_or after k 0))
    → RowAt 0 (turned_at before 0) before k after → RowAt 0 (turned_at before 0) before (k + 1) (set after k v)
unfolding turned_at
turn-word k before after v room e r =
    let z : 0 + k ≡ k = omega arith in
    rw z at
    (row_more 0 (turned_at before 0) before k after v (omega arith) r
    (e ∙ ap (λ (u : ℕ). by_columns (bit u)) (r.over k (omega arith) ∙ ap (λ (j : ℕ). get_or before j 0) (sym z))))

-- words that were lent and are back turned
pub part-turned : (to n : ℕ) (words part : List ℕ) → to + n ≤ length words
    → RowAt 0 (turned_at (take n (drop to words)) 0) (take n (drop to words)) n part
    → RowAt to (turned_at words to) words n (put_mid to n words part)
unfolding turned_at
part-turned to n words part room r =
    row-put to n (turned_at words to) words part (grind (arith, common_steps)) room
    (λ k l. let z : 0 + k ≡ k = omega arith in rw z at (r.done k l) ∙ ap (λ (u : ℕ). by_columns (bit u)) (get_or-take n (drop to words) k 0 l ∙ get_or-drop to words k 0))
