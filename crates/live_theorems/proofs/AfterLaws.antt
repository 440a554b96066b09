-- The whole memory when a call of a list has returned.
use mathlib.Core.Path.{◌≡◌, refl, sym, ap, subst, ◌∙◌}
use mathlib.Core.List.{List, [], ◌∷◌}
use Prim.Native.Nat.{ℕ, zero, suc, ◌*◌, ◌≤◌}
use native.Mathlib.Omega.{arith}
use lib.IntN.{pos}
use lib.ListN.{length, take, drop, length-append, length-take, length-drop, get_or-append}
use Rattle.rules.specs.declared.Offset.{Offset}
use Rattle.rules.specs.Limits.{max_frames}
use Rattle.rules.specs.Frames.{written_over}
use Rattle.live.specs.Held.{Memory, held_length}
use Rattle.live.specs.Steps.{number_of, made, step}
use Rattle.live_theorems.specs.Runs.{Handed, slices_of, after_call}
use Rattle.live_theorems.proofs.UsedLaws.{Used, Uses, numbered-same, shows_same}
use Rattle.live_theorems.proofs.NumberLaws.{number-by}
use Rattle.live_theorems.proofs.MadeLaws.{used_after, accepted-sizes, made-uses, SameLengths, made-lengths, step-taken, step-refused, step-lengths}

-- A slice put back as it was.
put-back : {A : Type 0} (n : ℕ) (l : List A) → written_over (take n l) l ≡ l
put-back zero l = refl
put-back (suc n) [] = refl
put-back (suc n) (a ∷ l) = ap (λ (r : List _). a ∷ r) (put-back n l)

over-length : {A : Type 0} (n : ℕ) (out l : List A) → length out ≡ length (take n l) → length (written_over out l) ≡ length l
over-length n out l e =
    length-append out (drop (length out) l)
    ∙ (let a = length-drop (length out) l in let b = length-take n l in omega arith)

-- The whole memory after a call of a list.
pub after-lengths : (preferred : List Offset) (m : Memory) (c : Handed) → SameLengths (after_call preferred m c) m
after-lengths preferred m c =
    let a = step-lengths preferred (slices_of m c) c.call (number_of (slices_of m c) c.call) refl in
    let left : Memory = (step preferred (slices_of m c) c.call).memory in
    (over-length c.numbers left.numbers m.numbers a.0, over-length c.newest left.newest m.newest a.1)

pub after-refused : (preferred : List Offset) (m : Memory) (c : Handed) (n : ℕ) → number_of (slices_of m c) c.call ≡ suc n → after_call preferred m c ≡ m
after-refused preferred m c n e =
    ap (λ (left : Memory). record { numbers = written_over left.numbers m.numbers; newest = written_over left.newest m.newest })
    (step-refused preferred (slices_of m c) c.call n e)
    ∙ (λ i. record { numbers = put-back c.numbers m.numbers i; newest = put-back c.newest m.newest i })

pub after-uses : (preferred : List Offset) (u : Used) (m : Memory) (c : Handed) → Uses u (slices_of m c) → number_of (slices_of m c) c.call ≡ 0
    → Uses (used_after preferred u c.call) (after_call preferred m c)
after-uses preferred u m c r e =
    subst (λ (left : Memory). Uses v (record { numbers = written_over left.numbers m.numbers; newest = written_over left.newest m.newest }))
    (sym (step-taken preferred s c.call e))
    (record {
      numbered = numbered-same v left.numbers (written_over left.numbers m.numbers) sizes.2
          (λ i l. get_or-append left.numbers (drop (length left.numbers) m.numbers) (pos 0) i (let a = sizes.0 in let b = lengths.0 in omega arith)) (made-uses preferred u s r c.call).numbered;
      shows = shows_same v left.newest (written_over left.newest m.newest)
          (λ i l. get_or-append left.newest (drop (length left.newest) m.newest) 0 i (let a = sizes.1 in let b = lengths.1 in omega arith)) (made-uses preferred u s r c.call).shows;
    })
  where
    s : Memory
    s = slices_of m c

    left : Memory
    left = made preferred s c.call

    v : Used
    v = used_after preferred u c.call

    sizes : (length s.numbers ≡ held_length) × (length s.newest ≡ v.bracket.w * v.bracket.h) × (v.bracket.frames ≤ max_frames)
    sizes = accepted-sizes preferred u (length s.numbers) (length s.newest) c.call (sym (number-by u s c.call (λ z. r.numbered)) ∙ e)

    lengths : SameLengths left s
    lengths = made-lengths preferred s c.call e
