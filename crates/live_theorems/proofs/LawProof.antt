-- THE LAW of the live bracket (its statement is `LiveLaw` in specs/LiveLaw.antt).
use mathlib.Core.Path.{◌≡◌, sym, ap, ap₂, subst, ◌∙◌}
use mathlib.Core.List.{List, ◌∷◌}
use Prim.Native.Nat.{ℕ, ◌*◌, ◌≤◌}
use native.Mathlib.Omega.{arith}
use lib.ListN.{length}
use lib.Seq.{length-take-le}
use Rattle.rules.specs.declared.Offset.{Offset}
use Rattle.rules.specs.Levels.{Near, Every, least_move_order}
use Rattle.rules.specs.Answers.{written}
use Rattle.rules.proofs.RefusalLaws.{buffer-part}
use Rattle.rules.proofs.SeriesLaws.{offsets-size}
use Rattle.live.specs.Held.{Memory}
use Rattle.live.specs.Steps.{Call, Reply, start_number, number_of, step, frames_in, offsets_in}
use Rattle.live_theorems.specs.Runs.{Handed, slices_of, after_call, replies, after_all}
use Rattle.live_theorems.specs.Sessions.{opened, all_rasters, series_of, series_offsets}
use Rattle.live_theorems.specs.LiveLaw.{starting, accepted, AsSession, HeldAfter, SeriesTakes, LiveLaw}
use Rattle.live_theorems.proofs.AfterLaws.{after-lengths}
use Rattle.live_theorems.proofs.SessionLaws.{SessionOk, opened-ok, session-ok}
use Rattle.live_theorems.proofs.SeriesOfLaws.{series-takes}
use Rattle.live_theorems.proofs.RunLaws.{start-holds, within-kept, list_same, list-holds}

-- an accepted start tells nothing
start-reply : (preferred : List Offset) (m : Memory) (numbers newest w h s tolerance percentile : ℕ) → numbers ≤ length m.numbers → newest ≤ length m.newest
    → start_number w h s tolerance percentile numbers newest ≡ 0
    → (step preferred (slices_of m (starting numbers newest w h s tolerance percentile)) (Call.Start w h s tolerance percentile)).reply ≡ accepted
unfolding step number_of frames_in offsets_in
start-reply preferred m numbers newest w h s tolerance percentile fits1 fits2 e = rw (length-take-le numbers m.numbers fits1, length-take-le newest m.newest fits2, e)

module _ (preferred : List Offset) (steps : Every (Near 1) preferred) where
  as-session : AsSession preferred
  unfolding replies
  as-session m numbers newest w h s tolerance percentile cs l e =
      let c : Handed = starting numbers newest w h s tolerance percentile in
      ap₂ (λ (a : Reply) (rest : List Reply). a ∷ rest) (start-reply preferred m numbers newest w h s tolerance percentile l.0 l.1 e)
      (list_same preferred steps (opened w h s tolerance percentile) (after_call preferred m c)
      (start-holds preferred m numbers newest w h s tolerance percentile l.0 l.1 e) cs
      (within-kept m (after_call preferred m c) cs (after-lengths preferred m c) l.2))

  held-after : HeldAfter preferred
  unfolding after_all
  held-after m numbers newest w h s tolerance percentile cs l e =
      let c : Handed = starting numbers newest w h s tolerance percentile in
      let r = list-holds preferred steps (opened w h s tolerance percentile) (after_call preferred m c)
      (start-holds preferred m numbers newest w h s tolerance percentile l.0 l.1 e) cs
      (within-kept m (after_call preferred m c) cs (after-lengths preferred m c) l.2) in
      record { bracket = r.uses.numbered.bracket; few = r.session.limits.frames }

series-written : (preferred : List Offset) → SeriesTakes preferred
series-written preferred numbers newest w h s tolerance percentile cs e S at some offsets offsets' counts counts' compared compared' grey grey' words words' r r1 r2 r3 r4 r5 call =
    let ok : SessionOk S = subst SessionOk (sym at) (session-ok (opened w h s tolerance percentile) (opened-ok w h s tolerance percentile numbers newest e) cs) in
    let z = series-takes S ok offsets counts compared grey words some r1 r2 r3 r4 r5 in (
      call.answered ∙ ap written z,
      buffer-part _ (2 * length S.rasters) (series_offsets preferred S) offsets offsets' z (offsets-size preferred (series_of S) (all_rasters S.rasters)) call.offsets_are,
    )

pub live-law : (order : List Offset) → Every (Near 1) order → LiveLaw order
live-law order steps = record { as_session = as-session order steps; held_after = held-after order steps; series_takes = series-written order }

-- the calls' own order
pub near-least : Every (Near 1) least_move_order
near-least = omega arith

pub least-move-law : LiveLaw least_move_order
least-move-law = live-law least_move_order near-least
