-- What a refused call leaves by its step, and an accepted one.
use Rattle.std.specs.Prelude.{Ok, Err}
use mathlib.Core.Path.{◌≡◌, refl, sym, ◌∙◌}
use mathlib.Core.List.{List, []}
use Prim.Native.Nat.{ℕ, zero, suc}
use lib.IntN.{ℤ}
use Rattle.rules.specs.declared.Offset.{Offset}
use Rattle.rules.specs.Answers.{written}
use Rattle.rules.specs.Frames.{written_over}
use Rattle.live.specs.Held.{Memory, memory_of}
use Rattle.live.specs.Steps.{Call, number_of, made, frames_in, offsets_in, if_accepted, step}
use Rattle.live.specs.LiveCalls.{Leaves, LeavesWork, Tells}

refusal : (n : ℕ) → (n ≡ 0 → ⊥) → Err n ≡ written n
refusal zero l = absurd (l refl)
refusal (suc n) l = refl

stays : {A : Type 0} (n : ℕ) (makes before : A) → (n ≡ 0 → ⊥) → before ≡ if_accepted n makes before
stays zero makes before l = absurd (l refl)
stays (suc n) makes before l = refl

module _ (order : List Offset) (m : Memory) (c : Call) (n : ℕ) (number : n ≡ number_of m c) where
  pub refused-leaves : (n ≡ 0 → ⊥) → Leaves (step order m c) m.numbers m.newest (Err n)
  unfolding step
  refused-leaves l = record { answered = rw (← number) (refusal n l); memory_is = rw (← number) (stays n (made order m c) m l) }

  pub accepted-leaves : n ≡ 0 → (numbers' : List ℤ) (newest' : List ℕ) → memory_of numbers' newest' ≡ made order m c → Leaves (step order m c) numbers' newest' (Ok tt)
  unfolding step
  accepted-leaves z numbers' newest' e = record { answered = rw (sym number ∙ z); memory_is = rw (sym number ∙ z) e }

  -- the same with work memory
  pub refused-work : (n ≡ 0 → ⊥) → (grey words : List ℕ) → LeavesWork (step order m c) m.numbers m.newest grey grey words words (Err n)
  refused-work l grey words = record { held = refused-leaves l; memory_kept = λ f. (refl, refl) }

  pub accepted-work : n ≡ 0 → (numbers' : List ℤ) (newest' grey grey' words words' : List ℕ) → memory_of numbers' newest' ≡ made order m c
      → LeavesWork (step order m c) numbers' newest' grey grey' words words' (Ok tt)
  unfolding step
  accepted-work z numbers' newest' grey grey' words words' e = record { held = accepted-leaves z numbers' newest' e; memory_kept = λ f. absurd (f (sym number ∙ z)) }

  -- a call that tells
  pub refused-tells : (n ≡ 0 → ⊥) → (offsets : List ℤ) → Tells (step order m c) offsets offsets (Err n)
  unfolding step
  refused-tells l offsets = rw (← number) (kept n l (frames_in m c) (offsets_in m c))
    where
      kept : (k : ℕ) → (k ≡ 0 → ⊥) → (frames : ℕ) (out : List ℤ)
          → Tells (record { reply = record { number = k; frames = if_accepted k frames 0; offsets = if_accepted k out [] }; memory = if_accepted k (made order m c) m }) offsets offsets (Err k)
      kept zero l frames out = absurd (l refl)
      kept (suc k) l frames out = record { answered = refl; offsets_are = refl }

  pub accepted-tells : n ≡ 0 → (frames : ℕ) (offsets offsets' : List ℤ) → frames ≡ frames_in m c → offsets' ≡ written_over (offsets_in m c) offsets
      → Tells (step order m c) offsets offsets' (Ok frames)
  unfolding step
  accepted-tells z frames offsets offsets' f e = record { answered = rw (sym number ∙ z, f); offsets_are = rw (sym number ∙ z) e }
