-- Laws of a bracket's limits: tests one after another make up the test of all.
use mathlib.Core.Path.{◌≡◌, refl, sym, ◌∙◌}
use mathlib.Core.Bool.{Bool, true, false, ◌||◌}
use mathlib.Core.List.{List}
use Prim.Native.Nat.{ℕ, suc, ◌*◌, ◌-◌, ◌%◌, ◌^◌, ◌≤◌}
use native.Mathlib.Nat.{mul_comm, pow-suc}
use native.Mathlib.Omega.{arith}
use lib.IntN.{ℤ}
use lib.Pow.{shl_exact}
use Rattle.rules.specs.Limits.{max_halvings}
use Rattle.rules.specs.Refusals.{◌when◌, ◌or_else◌, bad_size, bad_halvings, too_small, shape_refusal}
use Rattle.live.specs.declared.Bracket.{Bracket}
use Rattle.live.specs.Held.{bracket_of, held_pair, pairs_in}
use Rattle.live.specs.Steps.{some_far, bad_bracket, bad_held}

-- the shape's number against its three tests
three-bad : (a b c rest : Bool) (k : ℕ) → k ≡ 2 when a or_else 3 when b or_else 4 when c → (k ≡ 0 → ⊥) → a || (b || (c || rest)) ≡ true
three-bad true b c rest k e l = refl
three-bad false true c rest k e l = refl
three-bad false false true rest k e l = refl
three-bad false false false rest k e l = absurd (l e)

three-good : (a b c rest : Bool) (k : ℕ) → k ≡ 2 when a or_else 3 when b or_else 4 when c → k ≡ 0 → a || (b || (c || rest)) ≡ rest
three-good true b c rest k e z = absurd (omega arith)
three-good false true c rest k e z = absurd (omega arith)
three-good false false true rest k e z = absurd (omega arith)
three-good false false false rest k e z = refl

module _ (w h s k : ℕ) (rest : Bool) (told : k ≡ shape_refusal w h s) where
  pub shape-bad : (k ≡ 0 → ⊥) → bad_size w h || (bad_halvings s || (too_small w h s || rest)) ≡ true
  shape-bad l = three-bad (bad_size w h) (bad_halvings s) (too_small w h s) rest k told l

  pub shape-good : k ≡ 0 → bad_size w h || (bad_halvings s || (too_small w h s || rest)) ≡ rest
  shape-good z = three-good (bad_size w h) (bad_halvings s) (too_small w h s) rest k told z

-- the bound of a pair's offset, 2^(s+1) − 1: the shift loses no bit
pub bound-is : (s : ℕ) → s ≤ max_halvings → 2 * 2 ^ s % 2 ^ 32 ≡ 2 ^ suc s
bound-is s l = shl_exact {a = 2} 2 s 32 (omega arith) (omega arith) ∙ mul_comm 2 (2 ^ s) ∙ sym (pow-suc 2 s)

-- The memory's test, from that of the bracket that was read.
module _ (held : List ℤ) (B : Bracket) (read : B ≡ bracket_of held) where
  pub held_first : bad_bracket B ≡ true → true ≡ bad_held held
  unfolding bad_held
  held_first e = rw (← read, e)

  pub held-pairs : bad_bracket B ≡ false → (t : Bool) → t ≡ some_far (2 ^ suc B.s - 1) (held_pair held) (pairs_in B) → t ≡ bad_held held
  unfolding bad_held
  held-pairs e t told = rw (← read, e) told
