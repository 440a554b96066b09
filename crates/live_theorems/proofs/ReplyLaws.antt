-- The answer of a call, and what it tells, follow from what is used.
use mathlib.Core.Path.{◌≡◌, refl, sym, ap, ◌∙◌}
use mathlib.Core.List.{List, []}
use Prim.Native.Nat.{ℕ, zero, suc, ◌-◌, ◌<◌}
use native.Mathlib.Omega.{arith}
use lib.IntN.{ℤ}
use lib.ListN.{length}
use Rattle.rules.specs.declared.Offset.{Offset}
use Rattle.rules.specs.Series.{frame_offset, offset_list}
use Rattle.rules.proofs.SeriesLaws.{frame-list-ext}
use Rattle.live.specs.declared.Bracket.{Bracket}
use Rattle.live.specs.Held.{Memory, held_length, held_pair}
use Rattle.live.specs.Steps.{Call, Reply, number_of, offsets_held, frames_in, offsets_in, if_accepted, step}
use Rattle.live_theorems.proofs.UsedLaws.{Used, Numbered}
use Rattle.live_theorems.proofs.NumberLaws.{number_by, number-by}
use Rattle.live_theorems.proofs.MadeLaws.{accepted-sizes}

-- The answer.
pub list-by : (n : ℕ) (d e : ℕ → Offset) → ((j : ℕ) → j < n - 1 → d j ≡ e j) → offset_list n (frame_offset d 0) ≡ offset_list n (frame_offset e 0)
unfolding offset_list
list-by zero d e same = refl
list-by (suc n) d e same = frame-list-ext (suc n) 0 d e (omega arith) same

unfoldable pub frames_by : Used → Call → ℕ
frames_by u (Call.Start w h s tolerance percentile) = 0
frames_by u (Call.Add raster grey words) = 0
frames_by u Call.Drop = 0
frames_by u (Call.Tell offsets) = u.bracket.frames

unfoldable pub offsets_by : Used → Call → List ℤ
offsets_by u (Call.Start w h s tolerance percentile) = []
offsets_by u (Call.Add raster grey words) = []
offsets_by u Call.Drop = []
offsets_by u (Call.Tell offsets) = offset_list u.bracket.frames (frame_offset u.pairs 0)

frames-by : (u : Used) (m : Memory) (c : Call) → Numbered u m.numbers → frames_in m c ≡ frames_by u c
unfolding frames_in frames_by
frames-by u m (Call.Start w h s tolerance percentile) r = refl
frames-by u m (Call.Add raster grey words) r = refl
frames-by u m Call.Drop r = refl
frames-by u m (Call.Tell offsets) r = ap (λ (B : Bracket). B.frames) r.bracket

offsets-by : (u : Used) (m : Memory) (c : Call) → Numbered u m.numbers → offsets_in m c ≡ offsets_by u c
unfolding offsets_in offsets_by offsets_held
offsets-by u m (Call.Start w h s tolerance percentile) r = refl
offsets-by u m (Call.Add raster grey words) r = refl
offsets-by u m Call.Drop r = refl
offsets-by u m (Call.Tell offsets) r =
    ap (λ (B : Bracket). offset_list B.frames (frame_offset (held_pair m.numbers) 0)) r.bracket
    ∙ list-by u.bracket.frames (held_pair m.numbers) u.pairs r.pairs

abbrev pub reply_by : Used → ℕ → Call → Reply
reply_by u number c = record { number = number; frames = if_accepted number (frames_by u c) 0; offsets = if_accepted number (offsets_by u c) [] }

pub reply-by : (preferred : List Offset) (u : Used) (m : Memory) (c : Call) → (length m.numbers ≡ held_length → Numbered u m.numbers)
    → (step preferred m c).reply ≡ reply_by u (number_by u (length m.numbers) (length m.newest) c) c
unfolding step
reply-by preferred u m c r = at (number_of m c) refl ∙ ap (λ (n : ℕ). reply_by u n c) (number-by u m c r)
  where
    at : (n : ℕ) → number_of m c ≡ n → (step preferred m c).reply ≡ reply_by u (number_of m c) c
    at zero e =
        let a = accepted-sizes preferred u (length m.numbers) (length m.newest) c (sym (number-by u m c r) ∙ e) in
        rw e (λ i. record { number = 0; frames = frames-by u m c (r a.0) i; offsets = offsets-by u m c (r a.0) i })
    at (suc n) e = rw e
