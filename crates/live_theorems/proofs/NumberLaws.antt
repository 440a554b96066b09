-- The refusal number of a call follows from what is used.
use mathlib.Core.Path.{◌≡◌, refl, ap, ap₂, ◌∙◌}
use mathlib.Core.Bool.{Bool, ◌||◌}
use mathlib.Core.Logic.{⊎_elim}
use mathlib.Core.List.{List}
use Prim.Native.Nat.{ℕ, zero, suc, ◌-◌, ◌^◌, ◌≤◌, ◌<◌}
use native.Mathlib.Omega.{arith}
use lib.Dec.{ltb}
use lib.IntN.{ℤ, nat_abs}
use lib.ListN.{length}
use borrow.Author.Tests.{ne_eqb}
use Rattle.rules.specs.declared.Offset.{Offset}
use Rattle.rules.proofs.SumLaws.{order}
use Rattle.live.specs.declared.Bracket.{Bracket}
use Rattle.live.specs.Held.{Memory, held_length, held_pair, pairs_in}
use Rattle.live.specs.Steps.{Call, some_far, bad_bracket, bad_held, start_number, add_number, drop_number, tell_number, number_of}
use Rattle.live_theorems.proofs.UsedLaws.{Used, Numbered}

-- The refusal number by what is used.
abbrev pub bad_by : Used → Bool
bad_by u = bad_bracket u.bracket || some_far (2 ^ suc u.bracket.s - 1) u.pairs (pairs_in u.bracket)

unfoldable pub number_by : Used → ℕ → ℕ → Call → ℕ
number_by u numbers newest (Call.Start w h s tolerance percentile) = start_number w h s tolerance percentile numbers newest
number_by u numbers newest (Call.Add raster grey words) = add_number (bad_by u) u.bracket numbers newest (length raster) grey words
number_by u numbers newest Call.Drop = drop_number (bad_by u) u.bracket numbers newest
number_by u numbers newest (Call.Tell offsets) = tell_number (bad_by u) u.bracket numbers newest offsets

far-ext : (bound : ℕ) (d e : ℕ → Offset) (n : ℕ) → ((k : ℕ) → k < n → d k ≡ e k) → some_far bound d n ≡ some_far bound e n
unfolding some_far
far-ext bound d e zero same = refl
far-ext bound d e (suc n) same =
    ap₂ (λ (t : Bool) (m : Offset). t || (ltb bound (nat_abs m.dx) || ltb bound (nat_abs m.dy))) (far-ext bound d e n (λ k l. same k (omega arith))) (same n (omega arith))

bad-by : (u : Used) (l : List ℤ) → Numbered u l → bad_held l ≡ bad_by u
unfolding bad_held
bad-by u l r =
    ap (λ (B : Bracket). bad_bracket B || some_far (2 ^ suc B.s - 1) (held_pair l) (pairs_in B)) r.bracket
    ∙ ap (λ (t : Bool). bad_bracket u.bracket || t) (far-ext (2 ^ suc u.bracket.s - 1) (held_pair l) u.pairs (pairs_in u.bracket) r.pairs)

number_read : (u : Used) (m : Memory) (c : Call) → Numbered u m.numbers → number_of m c ≡ number_by u (length m.numbers) (length m.newest) c
unfolding number_of number_by
number_read u m (Call.Start w h s tolerance percentile) r = refl
number_read u m (Call.Add raster grey words) r =
    ap₂ (λ (bad : Bool) (B : Bracket). add_number bad B (length m.numbers) (length m.newest) (length raster) grey words) (bad-by u m.numbers r) r.bracket
number_read u m Call.Drop r =
    ap₂ (λ (bad : Bool) (B : Bracket). drop_number bad B (length m.numbers) (length m.newest)) (bad-by u m.numbers r) r.bracket
number_read u m (Call.Tell offsets) r =
    ap₂ (λ (bad : Bool) (B : Bracket). tell_number bad B (length m.numbers) (length m.newest) offsets) (bad-by u m.numbers r) r.bracket

-- not 36 numbers: none of them is read
number-wrong : (u : Used) (m : Memory) (c : Call) → (length m.numbers ≡ held_length → ⊥) → number_of m c ≡ number_by u (length m.numbers) (length m.newest) c
unfolding number_of number_by add_number drop_number tell_number
number-wrong u m (Call.Start w h s tolerance percentile) wrong = refl
number-wrong u m (Call.Add raster grey words) wrong = rw (ne_eqb (length m.numbers) held_length wrong)
number-wrong u m Call.Drop wrong = rw (ne_eqb (length m.numbers) held_length wrong)
number-wrong u m (Call.Tell offsets) wrong = rw (ne_eqb (length m.numbers) held_length wrong)

pub number-by : (u : Used) (m : Memory) (c : Call) → (length m.numbers ≡ held_length → Numbered u m.numbers)
    → number_of m c ≡ number_by u (length m.numbers) (length m.newest) c
number-by u m c r = ⊎_elim under (λ (l : held_length ≤ length m.numbers). ⊎_elim (at l) over (order (length m.numbers) (suc held_length))) (order (length m.numbers) held_length)
  where
    under : length m.numbers < held_length → number_of m c ≡ number_by u (length m.numbers) (length m.newest) c
    under l = number-wrong u m c (λ e. omega arith)

    over : suc held_length ≤ length m.numbers → number_of m c ≡ number_by u (length m.numbers) (length m.newest) c
    over l = number-wrong u m c (λ e. omega arith)

    at : held_length ≤ length m.numbers → length m.numbers < suc held_length → number_of m c ≡ number_by u (length m.numbers) (length m.newest) c
    at l k = number_read u m c (r (omega arith))
