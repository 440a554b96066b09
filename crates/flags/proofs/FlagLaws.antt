-- Laws of flags: the test of a pixel, the weights, and flags filled one by one.
use mathlib.Core.Path.{◌≡◌, refl, sym, ap, ap₂, ◌∙◌}
use mathlib.Core.Bool.{Bool, true, false, ◌||◌}
use mathlib.Core.Logic.{⊎_elim}
use mathlib.Core.List.{List, [], ◌∷◌}
use Prim.Native.Nat.{ℕ, ◌+◌, ◌*◌, ◌-◌, ◌/◌, ◌%◌, ◌^◌, ◌≤◌, ◌<◌}
use native.Mathlib.Nat.{zero-mul, one-mul}
use native.Mathlib.Omega.{arith}
use lib.Dec.{ltb, eqb}
use lib.ListN.{length, get_or, set, replicate, get_or-replicate}
use lib.Seq.{get_or-set_same, get_or-set_other}
use borrow.Author.Tests.{lt-ltb, le-ltb, eqb-true}
use Rattle.rules.specs.Sums.{gate, one_if}
use Rattle.rules.proofs.SumLaws.{order, gate-small}
use Rattle.rules.proofs.CaseLaws.{compared, all, all-at}
use Rattle.flags.specs.Flags.{outside_bit, flag_at, Weighed}

-- Counted on from lo, round at 256, the values of lo..hi come first: one test tells where v lies.
pub outside-past : (lo hi v : ℕ) → lo ≤ hi → hi < 256 → v < 256 → hi - lo < (v + (256 - lo)) % 256 → outside_bit lo hi v ≡ 1
unfolding outside_bit
outside-past lo hi v k l b p =
    ⊎_elim (λ (m : v < lo). simp (lt-ltb v lo m)) (λ (m : lo ≤ v). simp (le-ltb v lo m, lt-ltb hi v (omega arith))) (order v lo)

pub outside-first : (lo hi v : ℕ) → lo ≤ hi → hi < 256 → v < 256 → (v + (256 - lo)) % 256 ≤ hi - lo → outside_bit lo hi v ≡ 0
unfolding outside_bit
outside-first lo hi v k l b p = simp (le-ltb v lo (omega arith), le-ltb hi v (omega arith))

-- what the test of a single value needs
pub ruleset outside_tests = (outside-past, outside-first)

one-if-lt : (t : Bool) → one_if t < 2
one-if-lt true = omega arith
one-if-lt false = omega arith

pub outside-lt : (lo hi v : ℕ) → outside_bit lo hi v < 2
unfolding outside_bit
outside-lt lo hi v = one-if-lt (ltb v lo || ltb hi v)

pub flag-lt : (lo hi : ℕ) (grey : List ℕ) (at n i : ℕ) → flag_at lo hi grey at n i < 2
unfolding flag_at
flag-lt lo hi grey at n i = gate-small (ltb i n) (outside_bit lo hi (get_or grey (at + i) 0)) (outside-lt lo hi (get_or grey (at + i) 0))

pub flag-in : (lo hi : ℕ) (grey : List ℕ) (at n i : ℕ) → i < n → flag_at lo hi grey at n i ≡ outside_bit lo hi (get_or grey (at + i) 0)
unfolding flag_at
flag-in lo hi grey at n i l = ap (λ t. gate t (outside_bit lo hi (get_or grey (at + i) 0))) (lt-ltb i n l)

pub flag-past : (lo hi : ℕ) (grey : List ℕ) (at n i : ℕ) → n ≤ i → flag_at lo hi grey at n i ≡ 0
unfolding flag_at
flag-past lo hi grey at n i l = ap (λ t. gate t (outside_bit lo hi (get_or grey (at + i) 0))) (le-ltb i n l)

-- no flag yet
pub flags-none : (lo hi : ℕ) (grey : List ℕ) (at : ℕ) → Weighed (flag_at lo hi grey at 0) (replicate 64 0)
flags-none lo hi grey at = record {
  flag = λ i l. flag-lt lo hi grey at 0 i;
  held = λ i l. get_or-replicate 64 i 0 0 l ∙ sym (ap (λ (v : ℕ). v * 2 ^ (i / 8)) (flag-past lo hi grey at 0 i (omega arith)) ∙ zero-mul (2 ^ (i / 8)));
}

-- one flag more
pub flags-more : (lo hi : ℕ) (grey : List ℕ) (at i : ℕ) (flags : List ℕ) (v weight : ℕ) → i < length flags → weight ≡ 1 * 2 ^ (i / 8)
    → v ≡ outside_bit lo hi (get_or grey (at + i) 0) * weight
    → Weighed (flag_at lo hi grey at i) flags → Weighed (flag_at lo hi grey at (i + 1)) (set flags i v)
flags-more lo hi grey at i flags v weight room e d w = record {
  flag = λ k l. flag-lt lo hi grey at (i + 1) k;
  held = λ k l. compared k i (other k l) (here k) (past k l);
}
  where
    other : (k : ℕ) → k < 64 → k < i → get_or (set flags i v) k 0 ≡ flag_at lo hi grey at (i + 1) k * 2 ^ (k / 8)
    other k l m =
        get_or-set_other flags i k v 0 (λ f. omega arith)
        ∙ w.held k l
        ∙ ap (λ (u : ℕ). u * 2 ^ (k / 8)) (flag-in lo hi grey at i k m ∙ sym (flag-in lo hi grey at (i + 1) k (omega arith)))

    past : (k : ℕ) → k < 64 → i < k → get_or (set flags i v) k 0 ≡ flag_at lo hi grey at (i + 1) k * 2 ^ (k / 8)
    past k l m =
        get_or-set_other flags i k v 0 (λ f. omega arith)
        ∙ w.held k l
        ∙ ap (λ (u : ℕ). u * 2 ^ (k / 8)) (flag-past lo hi grey at i k (omega arith) ∙ sym (flag-past lo hi grey at (i + 1) k (omega arith)))

    here : (k : ℕ) → k ≡ i → get_or (set flags i v) k 0 ≡ flag_at lo hi grey at (i + 1) k * 2 ^ (k / 8)
    here k f =
        ap (λ (j : ℕ). get_or (set flags i v) j 0) f
        ∙ get_or-set_same flags i v 0 room
        ∙ d
        ∙ ap₂ (λ (u c : ℕ). u * c) (sym (flag-in lo hi grey at (i + 1) i (omega arith))) (e ∙ one-mul (2 ^ (i / 8)))
        ∙ ap (λ (j : ℕ). flag_at lo hi grey at (i + 1) j * 2 ^ (j / 8)) (sym f)

-- the constant's entries
abbrev pub weights : List ℕ
weights =
    1 ∷ 1 ∷ 1 ∷ 1 ∷ 1 ∷ 1 ∷ 1 ∷ 1 ∷
    2 ∷ 2 ∷ 2 ∷ 2 ∷ 2 ∷ 2 ∷ 2 ∷ 2 ∷
    4 ∷ 4 ∷ 4 ∷ 4 ∷ 4 ∷ 4 ∷ 4 ∷ 4 ∷
    8 ∷ 8 ∷ 8 ∷ 8 ∷ 8 ∷ 8 ∷ 8 ∷ 8 ∷
    16 ∷ 16 ∷ 16 ∷ 16 ∷ 16 ∷ 16 ∷ 16 ∷ 16 ∷
    32 ∷ 32 ∷ 32 ∷ 32 ∷ 32 ∷ 32 ∷ 32 ∷ 32 ∷
    64 ∷ 64 ∷ 64 ∷ 64 ∷ 64 ∷ 64 ∷ 64 ∷ 64 ∷
    128 ∷ 128 ∷ 128 ∷ 128 ∷ 128 ∷ 128 ∷ 128 ∷ 128 ∷ []

right : ℕ → Bool
right i = eqb (get_or weights i 0) (1 * 2 ^ (i / 8))

all_right : all 64 right ≡ true
unfolding all right
all_right = refl

pub weights-held : Weighed (λ i. 1) weights
unfolding right
weights-held = record {
  flag = λ i l. omega arith;
  held = λ i l. eqb-true (get_or weights i 0) (1 * 2 ^ (i / 8)) (all-at 64 right all_right i l);
}
