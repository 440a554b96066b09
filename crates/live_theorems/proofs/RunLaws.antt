-- A memory that holds a session answers as the session does, and holds the next one when the call has returned.
use mathlib.Core.Path.{◌≡◌, refl, sym, ap, ap₂, ◌∙◌}
use mathlib.Core.Bool.{Bool, false, cond}
use mathlib.Core.Logic.{⊎_elim}
use mathlib.Core.List.{List, [], ◌∷◌}
use Prim.Native.Nat.{ℕ, zero, suc, ◌+◌, ◌*◌, ◌-◌, ◌^◌, ◌≤◌, ◌<◌}
use native.Mathlib.Omega.{arith}
use lib.Dec.{eqb}
use lib.IntN.{pos}
use lib.ListN.{length, get_or, drop, take, length-drop}
use lib.Seq.{get_or-take, length-take-le}
use borrow.Author.Tests.{eq-eqb, ne_eqb}
use Rattle.rules.specs.declared.Offset.{Offset}
use Rattle.rules.specs.declared.Exclusion.{Exclusion}
use Rattle.rules.specs.Greys.{grey_frame}
use Rattle.rules.specs.Levels.{Near, Every, rule_of, aligned_by}
use Rattle.rules.proofs.SumLaws.{order}
use Rattle.rules.proofs.OffsetLaws.{near-pair}
use Rattle.live.specs.Held.{Memory, held_length}
use Rattle.live.specs.Steps.{Call, Reply, start_number, add_number, drop_number, tell_number, number_of, holding, setup_in, extended, if_accepted, step}
use Rattle.live.proofs.LimitLaws.{not-bad, near-no-far, start-none-bad}
use Rattle.live_theorems.specs.Runs.{Handed, slices_of, after_call, replies, after_all, Within}
use Rattle.live_theorems.specs.Sessions.{Session, opened, bracket_in, number_in, changed, frames_told, offsets_told, reply_in, replies_in, session_after}
use Rattle.live_theorems.specs.LiveLaw.{starting}
use Rattle.live_theorems.proofs.UsedLaws.{Used, Numbered, Shows, Uses, used_of, uses-own, uses-ext, numbered-same, shows_same}
use Rattle.live_theorems.proofs.NumberLaws.{bad_by, number_by, number-by}
use Rattle.live_theorems.proofs.MadeLaws.{used_after, accepted-sizes, SameLengths}
use Rattle.live_theorems.proofs.AfterLaws.{after-lengths, after-refused, after-uses}
use Rattle.live_theorems.proofs.ReplyLaws.{frames_by, offsets_by, reply_by, reply-by}
use Rattle.live_theorems.proofs.SessionLaws.{SessionOk, opened-ok, changed-ok, more-at, last-at, more-length, less-at}
use Rattle.live_theorems.proofs.SeriesOfLaws.{grey_in, used_in, series-told}

pub record Holds (preferred : List Offset) (S : Session) (m : Memory) : Type 0 where
  pub session : SessionOk S
  pub uses : Uses (used_in preferred S) m
  pub numbers : held_length ≤ length m.numbers
  pub newest : S.w * S.h ≤ length m.newest

-- What is used, once a session has changed.
module _ (preferred : List Offset) (m : Memory) where
  opened-uses : (u : Used) (w h s tolerance percentile : ℕ) → Uses (used_after preferred u (Call.Start w h s tolerance percentile)) m
      → Uses (used_in preferred (opened w h s tolerance percentile)) m
  unfolding used_after
  opened-uses u w h s tolerance percentile =
      uses-ext (used_after preferred u (Call.Start w h s tolerance percentile)) (used_in preferred (opened w h s tolerance percentile)) m refl
      (λ k l. absurd (omega arith)) (λ l. absurd (omega arith))

  module _ (S : Session) where
    abbrev aligned : List ℕ → List ℕ → Offset
    aligned a b = (aligned_by preferred (setup_in (bracket_in S)) (grey_frame S.w a) (grey_frame S.w b)).offset

    added-uses : (raster : List ℕ) (grey words : ℕ) → Uses (used_after preferred (used_in preferred S) (Call.Add raster grey words)) m
        → Uses (used_in preferred (changed S (Call.Add raster grey words))) m
    unfolding used_after changed extended
    added-uses raster grey words =
        uses-ext (used_after preferred (used_in preferred S) (Call.Add raster grey words)) (used_in preferred (changed S (Call.Add raster grey words))) m
        (ap (holding (bracket_in S)) (sym (more-length S.rasters raster)))
        (λ k l. ⊎_elim (old k) (new k l) (order k (n - 1)))
        (λ l x y i j. ap (λ (r : List ℕ). grey_frame S.w r x y) (sym (last-at S.rasters raster _ (let a = more-length S.rasters raster in omega arith))))
      where
        n : ℕ
        n = length S.rasters

        end : Offset
        end = aligned (get_or S.rasters (n - 1) []) raster

        at : ℕ → Offset
        at k = aligned (get_or (changed S (Call.Add raster grey words)).rasters k []) (get_or (changed S (Call.Add raster grey words)).rasters (k + 1) [])

        old : (k : ℕ) → k < n - 1 → cond (eqb k (n - 1)) end ((used_in preferred S).pairs k) ≡ at k
        old k l = rw (ne_eqb k (n - 1) (λ z. omega arith)) (ap₂ aligned (sym (more-at S.rasters raster k (omega arith))) (sym (more-at S.rasters raster (k + 1) (omega arith))))

        new : (k : ℕ) → k < n + 1 - 1 → n - 1 ≤ k → cond (eqb k (n - 1)) end ((used_in preferred S).pairs k) ≡ at k
        new k l p =
            rw (eq-eqb k (n - 1) (omega arith))
            (ap₂ aligned
            (ap (λ (j : ℕ). get_or S.rasters j []) (omega arith) ∙ sym (more-at S.rasters raster k (omega arith)))
            (sym (last-at S.rasters raster (k + 1) (omega arith))))

    dropped-uses : Uses (used_after preferred (used_in preferred S) Call.Drop) m → Uses (used_in preferred (changed S Call.Drop)) m
    unfolding used_after changed
    dropped-uses =
        let e : length (drop 1 S.rasters) ≡ length S.rasters - 1 = length-drop 1 S.rasters in
        uses-ext (used_after preferred (used_in preferred S) Call.Drop) (used_in preferred (changed S Call.Drop)) m
        (ap (holding (bracket_in S)) (sym e))
        (λ k l. ap₂ aligned (sym (less-at S.rasters k)) (sym (less-at S.rasters (k + 1))))
        (λ l x y i j.
        ap (λ (r : List ℕ). grey_frame S.w r x y)
        (ap (λ (k : ℕ). get_or S.rasters k []) (omega arith) ∙ sym (less-at S.rasters (length (drop 1 S.rasters) - 1))))

-- After a start, on any memory.
pub start-holds : (preferred : List Offset) (m : Memory) (numbers newest w h s tolerance percentile : ℕ) → numbers ≤ length m.numbers → newest ≤ length m.newest
    → start_number w h s tolerance percentile numbers newest ≡ 0
    → Holds preferred (opened w h s tolerance percentile) (after_call preferred m (starting numbers newest w h s tolerance percentile))
unfolding number_of
start-holds preferred m numbers newest w h s tolerance percentile fits1 fits2 e =
    let c : Handed = starting numbers newest w h s tolerance percentile in
    let a = start-none-bad w h s tolerance percentile numbers newest e in
    let l = after-lengths preferred m c in
    let z : number_of (slices_of m c) c.call ≡ 0 = rw (length-take-le numbers m.numbers fits1, length-take-le newest m.newest fits2) e in
    record {
      session = opened-ok w h s tolerance percentile numbers newest e;
      uses = opened-uses preferred (after_call preferred m c) (used_of (slices_of m c)) w h s tolerance percentile
          (after-uses preferred (used_of (slices_of m c)) m c (uses-own (slices_of m c)) z);
      numbers = let b = a.1 in let k = l.0 in omega arith;
      newest = let b = a.2 in let k = l.1 in omega arith;
    }

-- the memory stays as long as it was
pub within-kept : (m m' : Memory) (cs : List Handed) → SameLengths m' m → Within m cs → Within m' cs
within-kept m m' [] e l = tt
within-kept m m' (c ∷ cs) e l = (let a = e.0 in let b = l.0 in omega arith, let a = e.1 in let b = l.1 in omega arith, within-kept m m' cs e l.2)

module _ (preferred : List Offset) (steps : Every (Near 1) preferred) where
  -- Memory that holds a session breaks no limit.
  never-bad : (S : Session) → SessionOk S → bad_by (used_in preferred S) ≡ false
  never-bad S ok =
      rw (not-bad (bracket_in S) ok.limits)
      (near-no-far (2 ^ suc S.s - 1) (used_in preferred S).pairs (length S.rasters - 1)
      (λ k l. near-pair preferred steps (rule_of (Exclusion.Tolerance S.tolerance)) S.percentile S.s S.w S.h (grey_in S k) (grey_in S (k + 1))))

  number-in : (S : Session) → SessionOk S → (numbers newest : ℕ) (c : Call) → number_by (used_in preferred S) numbers newest c ≡ number_in S numbers newest c
  unfolding number_by number_in
  number-in S ok numbers newest (Call.Start w h s tolerance percentile) = refl
  number-in S ok numbers newest (Call.Add raster grey words) = ap (λ (bad : Bool). add_number bad (bracket_in S) numbers newest (length raster) grey words) (never-bad S ok)
  number-in S ok numbers newest Call.Drop = ap (λ (bad : Bool). drop_number bad (bracket_in S) numbers newest) (never-bad S ok)
  number-in S ok numbers newest (Call.Tell offsets) = ap (λ (bad : Bool). tell_number bad (bracket_in S) numbers newest offsets) (never-bad S ok)

  -- One call on a memory that holds a session.
  module _ (S : Session) (m : Memory) (r : Holds preferred S m) where
    numbered-slice : (n : ℕ) → held_length ≤ n → Numbered (used_in preferred S) (take n m.numbers)
    numbered-slice n l =
        numbered-same (used_in preferred S) m.numbers (take n m.numbers) r.session.limits.frames
        (λ i k. get_or-take n m.numbers i (pos 0) (omega arith)) r.uses.numbered

    shows-slice : (n : ℕ) → S.w * S.h ≤ n → Shows (used_in preferred S) (take n m.newest)
    shows-slice n l = shows_same (used_in preferred S) m.newest (take n m.newest) (λ i k. get_or-take n m.newest i 0 (omega arith)) r.uses.shows

    module _ (numbers newest : ℕ) (fits1 : numbers ≤ length m.numbers) (fits2 : newest ≤ length m.newest) where
      abbrev handed : Call → Handed
      handed c = record { numbers = numbers; newest = newest; call = c }

      abbrev slices : Memory
      slices = record { numbers = take numbers m.numbers; newest = take newest m.newest }

      size1 : length (take numbers m.numbers) ≡ numbers
      size1 = length-take-le numbers m.numbers fits1

      size2 : length (take newest m.newest) ≡ newest
      size2 = length-take-le newest m.newest fits2

      numbered : length slices.numbers ≡ held_length → Numbered (used_in preferred S) slices.numbers
      numbered e = numbered-slice numbers (let a = size1 in omega arith)

      number_is : (c : Call) → number_by (used_in preferred S) (length slices.numbers) (length slices.newest) c ≡ number_in S numbers newest c
      number_is c = ap₂ (λ (a b : ℕ). number_by (used_in preferred S) a b c) size1 size2 ∙ number-in S r.session numbers newest c

      number_same : (c : Call) → number_of slices c ≡ number_in S numbers newest c
      number_same c = number-by (used_in preferred S) slices c numbered ∙ number_is c

      frames-same : (c : Call) → frames_by (used_in preferred S) c ≡ frames_told S c
      unfolding frames_by frames_told
      frames-same (Call.Start w h s tolerance percentile) = refl
      frames-same (Call.Add raster grey words) = refl
      frames-same Call.Drop = refl
      frames-same (Call.Tell offsets) = refl

      offsets-same : (c : Call) → offsets_by (used_in preferred S) c ≡ offsets_told preferred S c
      unfolding offsets_by offsets_told
      offsets-same (Call.Start w h s tolerance percentile) = refl
      offsets-same (Call.Add raster grey words) = refl
      offsets-same Call.Drop = refl
      offsets-same (Call.Tell offsets) = sym (series-told S r.session preferred)

      pub reply-same : (c : Call) → (step preferred slices c).reply ≡ reply_in preferred S (number_in S numbers newest c) c
      reply-same c =
          reply-by preferred (used_in preferred S) slices c numbered
          ∙ ap (λ (n : ℕ). reply_by (used_in preferred S) n c) (number_is c)
          ∙ (λ i. record {
            number = number_in S numbers newest c;
            frames = if_accepted (number_in S numbers newest c) (frames-same c i) 0;
            offsets = if_accepted (number_in S numbers newest c) (offsets-same c i) [];
          })

      -- a call that is not a start: what it reads stands in its slices
      sliced : (c : Call) → (used_after preferred (used_in preferred S) c).bracket.w * (used_after preferred (used_in preferred S) c).bracket.h ≡ S.w * S.h
          → number_in S numbers newest c ≡ 0 → Uses (used_after preferred (used_in preferred S) c) (after_call preferred m (handed c))
      sliced c same e =
          let a = accepted-sizes preferred (used_in preferred S) (length slices.numbers) (length slices.newest) c (number_is c ∙ e) in
          after-uses preferred (used_in preferred S) m (handed c)
          (record { numbered = numbered a.0; shows = shows-slice newest (let b = a.1 in let k = size2 in omega arith) })
          (number_same c ∙ e)

      uses-after : (c : Call) → number_in S numbers newest c ≡ 0 → Uses (used_in preferred (changed S c)) (after_call preferred m (handed c))
      unfolding used_after changed number_in
      uses-after (Call.Start w h s tolerance percentile) e = (start-holds preferred m numbers newest w h s tolerance percentile fits1 fits2 e).uses
      uses-after (Call.Add raster grey words) e =
          added-uses preferred (after_call preferred m (handed (Call.Add raster grey words))) S raster grey words (sliced (Call.Add raster grey words) refl e)
      uses-after Call.Drop e = dropped-uses preferred (after_call preferred m (handed Call.Drop)) S (sliced Call.Drop refl e)
      uses-after (Call.Tell offsets) e = sliced (Call.Tell offsets) refl e

      newest-after : (c : Call) → number_in S numbers newest c ≡ 0 → (changed S c).w * (changed S c).h ≤ length m.newest
      unfolding changed number_in
      newest-after (Call.Start w h s tolerance percentile) e = let a = (start-none-bad w h s tolerance percentile numbers newest e).2 in omega arith
      newest-after (Call.Add raster grey words) e = r.newest
      newest-after Call.Drop e = r.newest
      newest-after (Call.Tell offsets) e = r.newest

      pub next-holds : (c : Call) (n : ℕ) → number_in S numbers newest c ≡ n
          → Holds preferred (if_accepted (number_in S numbers newest c) (changed S c) S) (after_call preferred m (handed c))
      next-holds c zero e =
          let l = after-lengths preferred m (handed c) in
          rw e (record {
            session = changed-ok S r.session numbers newest c e;
            uses = uses-after c e;
            numbers = let k = l.0 in let b = r.numbers in omega arith;
            newest = let k = l.1 in let b = newest-after c e in omega arith;
          })
      next-holds c (suc n) e = rw (e, after-refused preferred m (handed c) n (number_same c ∙ e)) r

  -- Lists of calls.
  pub list_same : (S : Session) (m : Memory) → Holds preferred S m → (cs : List Handed) → Within m cs → replies preferred m cs ≡ replies_in preferred S cs
  unfolding replies replies_in
  list_same S m r [] l = refl
  list_same S m r (c ∷ cs) l =
      let n : ℕ = number_in S c.numbers c.newest c.call in
      ap₂ (λ (a : Reply) (rest : List Reply). a ∷ rest) (reply-same S m r c.numbers c.newest l.0 l.1 c.call)
      (list_same (if_accepted n (changed S c.call) S) (after_call preferred m c) (next-holds S m r c.numbers c.newest l.0 l.1 c.call n refl) cs
      (within-kept m (after_call preferred m c) cs (after-lengths preferred m c) l.2))

  pub list-holds : (S : Session) (m : Memory) → Holds preferred S m → (cs : List Handed) → Within m cs → Holds preferred (session_after S cs) (after_all preferred m cs)
  unfolding session_after after_all
  list-holds S m r [] l = r
  list-holds S m r (c ∷ cs) l =
      let n : ℕ = number_in S c.numbers c.newest c.call in
      list-holds (if_accepted n (changed S c.call) S) (after_call preferred m c) (next-holds S m r c.numbers c.newest l.0 l.1 c.call n refl) cs
      (within-kept m (after_call preferred m c) cs (after-lengths preferred m c) l.2)
