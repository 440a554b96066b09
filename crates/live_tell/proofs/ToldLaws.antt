-- What an accepted tell knows of the held numbers, and the offsets that it writes.
use mathlib.Core.Path.{◌≡◌, ap, ◌∙◌}
use mathlib.Core.List.{List}
use Prim.Native.Nat.{ℕ, ◌+◌, ◌*◌, ◌-◌, ◌≤◌, ◌<◌}
use native.Mathlib.Omega.{arith}
use lib.IntN.{ℤ, pos}
use lib.ListN.{length, get_or, take, drop, length-take, length-drop}
use lib.Seq.{get_or-take}
use Rattle.rules.specs.Limits.{max_frames}
use Rattle.rules.specs.Frames.{written_over}
use Rattle.rules.specs.Series.{frame_offset, offset_list}
use Rattle.rules.proofs.SeriesLaws.{frame-list-ext}
use Rattle.offsets.specs.PairOffsets.{pair_offset, SmallPairs}
use Rattle.live.specs.declared.Bracket.{Bracket}
use Rattle.live.specs.Held.{pair_place, bracket_of, held_pair}
use Rattle.live.specs.HeldOk.{TellOk}
use Rattle.live.specs.Steps.{bad_held, tell_number, offsets_held}
use Rattle.live.proofs.LimitLaws.{held-ok, near-511, tell_ok}

module _ (l : List ℤ) (newest offsets : ℕ) (none : tell_number (bad_held l) (bracket_of l) (length l) newest offsets ≡ 0) where
  pub told-ok : TellOk (bad_held l) (bracket_of l) (length l) newest offsets
  told-ok = tell_ok (bad_held l) (bracket_of l) (length l) newest offsets none

  module _ (B : Bracket) (read : B ≡ bracket_of l) where
    pub few : B.frames ≤ max_frames
    few = rw read (held-ok l told-ok.limits).0.frames

    pub room : 2 * B.frames ≤ offsets
    room = rw read told-ok.room

    -- the pairs in use, as they are lent on
    abbrev used : List ℤ
    used = take (pair_place + 2 * (B.frames - 1) - pair_place) (drop pair_place l)

    pub end-inside : pair_place + 2 * (B.frames - 1) ≤ length l
    end-inside = let b = told-ok.exact1 in let c = few in omega arith

    pub pairs-room : 2 * (B.frames - 1) ≤ length used
    pairs-room = let a = length-drop pair_place l in let b = length-take (pair_place + 2 * (B.frames - 1) - pair_place) (drop pair_place l) in let c = end-inside in omega arith

    used-at : (i : ℕ) → i < 2 * (B.frames - 1) → get_or used i (pos 0) ≡ get_or (drop pair_place l) i (pos 0)
    used-at i k = get_or-take (pair_place + 2 * (B.frames - 1) - pair_place) (drop pair_place l) i (pos 0) (omega arith)

    used_pair : (j : ℕ) → j < B.frames - 1 → pair_offset used j ≡ held_pair l j
    used_pair j k = λ i. record { dx = used-at (2 * j) (omega arith) i; dy = used-at (2 * j + 1) (omega arith) i }

    pub pairs_small : SmallPairs (B.frames - 1) used
    pairs_small j k =
        let ok = held-ok l told-ok.limits in
        rw (used_pair j k) (near-511 (bracket_of l).s (held_pair l j) ok.0.shape.halvings (ok.1 j (rw (← read) k)))

    -- none held
    pub told_none : B.frames ≡ 0 → (out : List ℤ) → out ≡ written_over (offsets_held l) out
    unfolding offsets_held offset_list
    told_none z out = rw (← read, z)

    pub told-some : 0 < B.frames → (out after : List ℤ) → after ≡ written_over (offset_list B.frames (frame_offset (pair_offset used) 0)) out
        → after ≡ written_over (offsets_held l) out
    unfolding offsets_held
    told-some some out after e =
        e
        ∙ ap (λ (told : List ℤ). written_over told out) (frame-list-ext B.frames 0 (pair_offset used) (held_pair l) some used_pair)
        ∙ ap (λ (K : Bracket). written_over (offset_list K.frames (frame_offset (held_pair l) 0)) out) read
