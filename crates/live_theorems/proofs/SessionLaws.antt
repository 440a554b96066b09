-- A session that an accepted start and a list of calls lead to: its size and settings are within their limits, its rasters of its size, and there are 16 at most.
use mathlib.Core.Path.{◌≡◌, refl, ap, ◌∙◌}
use mathlib.Core.Bool.{false}
use mathlib.Core.Logic.{⊎_elim}
use mathlib.Core.List.{List, [], ◌∷◌, ◌++◌}
use Prim.Native.Nat.{ℕ, zero, suc, ◌+◌, ◌*◌, ◌<◌, ◌≤◌}
use native.Mathlib.Omega.{arith}
use lib.ListN.{length, get_or, drop, length-append, length-drop, get_or-append}
use lib.Seq.{get_or_at, get_or-drop}
use Rattle.rules.proofs.SumLaws.{order}
use Rattle.live.specs.HeldOk.{AddOk}
use Rattle.live.specs.Steps.{Call, start_number, if_accepted}
use Rattle.live.proofs.LimitLaws.{NoneBad, start-none-bad, add_ok}
use Rattle.live_theorems.specs.Runs.{Handed}
use Rattle.live_theorems.specs.Sessions.{Session, opened, bracket_in, number_in, changed, session_after}

pub record SessionOk (S : Session) : Type 0 where
  pub limits : NoneBad (bracket_in S)
  pub sizes : (k : ℕ) → k < length S.rasters → length (get_or S.rasters k []) ≡ 3 * (S.w * S.h)

pub opened-ok : (w h s tolerance percentile numbers newest : ℕ) → start_number w h s tolerance percentile numbers newest ≡ 0 → SessionOk (opened w h s tolerance percentile)
opened-ok w h s tolerance percentile numbers newest e = record {
  limits = (start-none-bad w h s tolerance percentile numbers newest e).0;
  sizes = λ k l. absurd (omega arith);
}

-- the rasters with one more at their end, and without the oldest
pub more-at : (rasters : List (List ℕ)) (raster : List ℕ) (k : ℕ) → k < length rasters → get_or (rasters ++ (raster ∷ [])) k [] ≡ get_or rasters k []
more-at rasters raster k l = get_or-append rasters (raster ∷ []) [] k l

pub last-at : (rasters : List (List ℕ)) (raster : List ℕ) (k : ℕ) → length rasters ≡ k → get_or (rasters ++ (raster ∷ [])) k [] ≡ raster
last-at rasters raster k e = get_or_at rasters raster [] [] k e

pub more-length : (rasters : List (List ℕ)) (raster : List ℕ) → length (rasters ++ (raster ∷ [])) ≡ length rasters + 1
more-length rasters raster = length-append rasters (raster ∷ [])

pub less-at : (rasters : List (List ℕ)) (k : ℕ) → get_or (drop 1 rasters) k [] ≡ get_or rasters (k + 1) []
less-at rasters k = get_or-drop 1 rasters k [] ∙ ap (λ (j : ℕ). get_or rasters j []) (omega arith)

pub changed-ok : (S : Session) → SessionOk S → (numbers newest : ℕ) (c : Call) → number_in S numbers newest c ≡ 0 → SessionOk (changed S c)
unfolding number_in changed
changed-ok S ok numbers newest (Call.Start w h s tolerance percentile) e = opened-ok w h s tolerance percentile numbers newest e
changed-ok S ok numbers newest (Call.Add raster grey words) e = record {
  limits = record {
    size = ok.limits.size;
    halvings = ok.limits.halvings;
    small = ok.limits.small;
    tolerance = ok.limits.tolerance;
    percentile = ok.limits.percentile;
    frames = let a = more-length S.rasters raster in let b = taken.place ok.limits.frames in omega arith;
  };
  sizes = λ k l. ⊎_elim (old k) (new k l) (order k (length S.rasters));
}
  where
    taken : AddOk false (bracket_in S) numbers newest (length raster) grey words
    taken = add_ok false (bracket_in S) numbers newest (length raster) grey words e

    old : (k : ℕ) → k < length S.rasters → length (get_or (S.rasters ++ (raster ∷ [])) k []) ≡ 3 * (S.w * S.h)
    old k l = ap length (more-at S.rasters raster k l) ∙ ok.sizes k l

    new : (k : ℕ) → k < length (S.rasters ++ (raster ∷ [])) → length S.rasters ≤ k → length (get_or (S.rasters ++ (raster ∷ [])) k []) ≡ 3 * (S.w * S.h)
    new k l m = let a = more-length S.rasters raster in ap length (last-at S.rasters raster k (omega arith)) ∙ taken.exact3
changed-ok S ok numbers newest Call.Drop e = record {
  limits = record {
    size = ok.limits.size;
    halvings = ok.limits.halvings;
    small = ok.limits.small;
    tolerance = ok.limits.tolerance;
    percentile = ok.limits.percentile;
    frames = let a = length-drop 1 S.rasters in let b = ok.limits.frames in omega arith;
  };
  sizes = λ k l. ap length (less-at S.rasters k) ∙ ok.sizes (k + 1) (let a = length-drop 1 S.rasters in omega arith);
}
changed-ok S ok numbers newest (Call.Tell offsets) e = ok

-- one call on, refused or not
pub next-ok : (S : Session) → SessionOk S → (numbers newest : ℕ) (c : Call) (n : ℕ) → number_in S numbers newest c ≡ n → SessionOk (if_accepted (number_in S numbers newest c) (changed S c) S)
next-ok S ok numbers newest c zero e = rw e (changed-ok S ok numbers newest c e)
next-ok S ok numbers newest c (suc n) e = rw e ok

pub session-ok : (S : Session) → SessionOk S → (cs : List Handed) → SessionOk (session_after S cs)
unfolding session_after
session-ok S ok [] = ok
session-ok S ok (c ∷ cs) =
    let n : ℕ = number_in S c.numbers c.newest c.call in
    session-ok (if_accepted n (changed S c.call) S) (next-ok S ok c.numbers c.newest c.call n refl) cs
