-- Re-exposed sessions answer alike: so do, by the law, the memories that hold them.
use mathlib.Core.Path.{◌≡◌, refl, sym, ap, ap₂, ◌∙◌}
use mathlib.Core.Bool.{false}
use mathlib.Core.Logic.{⊎_elim}
use mathlib.Core.List.{List, [], ◌∷◌, ◌++◌}
use Prim.Native.Nat.{ℕ, zero, suc, ◌+◌, ◌*◌, ◌-◌, ◌≤◌, ◌<◌}
use native.Mathlib.Omega.{arith}
use lib.ListN.{length, get_or, drop, length-drop}
use Rattle.rules.specs.declared.Offset.{Offset}
use Rattle.rules.specs.declared.Exclusion.{Exclusion}
use Rattle.rules.specs.Greys.{grey_frame}
use Rattle.rules.specs.Levels.{Near, Every, least_move_order, rule_of, Aligned}
use Rattle.rules.specs.Series.{frame_offset, offset_list}
use Rattle.rules.proofs.SumLaws.{order}
use Rattle.rules.proofs.FrameLaws.{pixel-fits}
use Rattle.reexposure.specs.Reexposure.{SameOrder}
use Rattle.reexposure.proofs.OrderLaws.{setting-by-order}
use Rattle.reexposure.proofs.Theorem.{same-pair, grey-byte}
use Rattle.grey.specs.GreyPlaces.{grey_at}
use Rattle.live.specs.declared.Bracket.{Bracket}
use Rattle.live.specs.Steps.{Call, Reply, add_number, drop_number, tell_number, holding, if_accepted}
use Rattle.live.proofs.LimitLaws.{limits-ok}
use Rattle.live_theorems.specs.Runs.{Handed}
use Rattle.live_theorems.specs.Sessions.{Session, opened, with_rasters, bracket_in, number_in, changed, frames_told, series_offsets, offsets_told, reply_in, replies_in}
use Rattle.live_theorems.specs.LiveLaw.{accepted}
use Rattle.live_theorems.specs.ReexposedSessions.{ReexposedRaster, AlikeCall, AlikeCalls, ReexposedAlike}
use Rattle.live_theorems.proofs.ReplyLaws.{list-by}
use Rattle.live_theorems.proofs.SessionLaws.{SessionOk, opened-ok, next-ok, more-at, last-at, more-length, less-at}
use Rattle.live_theorems.proofs.SeriesOfLaws.{used_in, series-told}
use Rattle.live_theorems.proofs.LawProof.{live-law, near-least}

-- a session at tolerance 0 and the same one with its rasters re-exposed
record Alike (S S' : Session) : Type 0 where
  rasters : List (List ℕ)
  same : S' ≡ with_rasters S rasters
  fair : S.tolerance ≡ 0
  count : length rasters ≡ length S.rasters
  each : (k : ℕ) → k < length S.rasters → ReexposedRaster (get_or S.rasters k []) (get_or rasters k [])

-- a re-exposed raster's grey frame
same-order : (w h : ℕ) (raster raster' : List ℕ) → length raster ≡ 3 * (w * h) → ReexposedRaster raster raster' → SameOrder w h (grey_frame w raster) (grey_frame w raster')
unfolding grey_frame grey_at
same-order w h raster raster' size r x y u v kx ky ku kv =
    let p = pixel-fits w h x y kx ky in
    let q = pixel-fits w h u v ku kv in
    r.alike (y * w + x) (v * w + u) (omega arith) (omega arith)

module _ (preferred : List Offset) (S : Session) (rasters : List (List ℕ)) (ok : SessionOk S) (fair : S.tolerance ≡ 0) (count : length rasters ≡ length S.rasters)
    (each : (k : ℕ) → k < length S.rasters → ReexposedRaster (get_or S.rasters k []) (get_or rasters k [])) where
  -- the pairs of neighbours
  pair-alike : (k : ℕ) → k < length S.rasters - 1 → (used_in preferred (with_rasters S rasters)).pairs k ≡ (used_in preferred S).pairs k
  pair-alike k l =
      let P = (limits-ok (bracket_in S) ok.limits).percentile in
      let one = each k (omega arith) in
      let two = each (k + 1) (omega arith) in
      sym (ap (λ (a : Aligned). a.offset)
      (same-pair preferred (rule_of (Exclusion.Tolerance S.tolerance)) S.percentile S.s S.w S.h (setting-by-order (Exclusion.Tolerance S.tolerance) S.percentile fair P)
      (let a = P.least in omega arith) (let a = P.most in omega arith)
      (grey_frame S.w (get_or S.rasters k [])) (grey_frame S.w (get_or rasters k [])) (grey_frame S.w (get_or S.rasters (k + 1) [])) (grey_frame S.w (get_or rasters (k + 1) []))
      (λ x y i j. grey-byte S.w (get_or S.rasters k []) one.bytes x y) (λ x y i j. grey-byte S.w (get_or rasters k []) one.bytes' x y)
      (λ x y i j. grey-byte S.w (get_or S.rasters (k + 1) []) two.bytes x y) (λ x y i j. grey-byte S.w (get_or rasters (k + 1) []) two.bytes' x y)
      (same-order S.w S.h (get_or S.rasters k []) (get_or rasters k []) (ok.sizes k (omega arith)) one)
      (same-order S.w S.h (get_or S.rasters (k + 1) []) (get_or rasters (k + 1) []) (ok.sizes (k + 1) (omega arith)) two)))

  ok' : SessionOk (with_rasters S rasters)
  ok' = record {
    limits = record {
      size = ok.limits.size;
      halvings = ok.limits.halvings;
      small = ok.limits.small;
      tolerance = ok.limits.tolerance;
      percentile = ok.limits.percentile;
      frames = let a = ok.limits.frames in omega arith;
    };
    sizes = λ k l. (each k (omega arith)).size ∙ ok.sizes k (omega arith);
  }

  offsets-alike : series_offsets preferred (with_rasters S rasters) ≡ series_offsets preferred S
  offsets-alike =
      series-told (with_rasters S rasters) ok' preferred
      ∙ ap (λ (n : ℕ). offset_list n (frame_offset (used_in preferred (with_rasters S rasters)).pairs 0)) count
      ∙ list-by (length S.rasters) (used_in preferred (with_rasters S rasters)).pairs (used_in preferred S).pairs pair-alike
      ∙ sym (series-told S ok preferred)

  bracket-alike : bracket_in (with_rasters S rasters) ≡ bracket_in S
  bracket-alike = ap (holding (bracket_in S)) count

  number_at : (numbers newest : ℕ) (c d : Call) → AlikeCall c d → number_in (with_rasters S rasters) numbers newest d ≡ number_in S numbers newest c
  unfolding number_in
  number_at numbers newest _ _ (AlikeCall.start w h s percentile) = refl
  number_at numbers newest _ _ (AlikeCall.add raster raster' grey words r) =
      ap₂ (λ (B : Bracket) (n : ℕ). add_number false B numbers newest n grey words) bracket-alike r.size
  number_at numbers newest _ _ AlikeCall.drop = ap (λ (B : Bracket). drop_number false B numbers newest) bracket-alike
  number_at numbers newest _ _ (AlikeCall.tell offsets) = ap (λ (B : Bracket). tell_number false B numbers newest offsets) bracket-alike

  reply-at : (n : ℕ) (c d : Call) → AlikeCall c d → reply_in preferred (with_rasters S rasters) n d ≡ reply_in preferred S n c
  unfolding frames_told offsets_told
  reply-at n _ _ (AlikeCall.start w h s percentile) = refl
  reply-at n _ _ (AlikeCall.add raster raster' grey words r) = refl
  reply-at n _ _ AlikeCall.drop = refl
  reply-at n _ _ (AlikeCall.tell offsets) = λ i. record { number = n; frames = if_accepted n (count i) 0; offsets = if_accepted n (offsets-alike i) [] }

  changed-alike : (c d : Call) → AlikeCall c d → Alike (changed S c) (changed (with_rasters S rasters) d)
  unfolding changed
  changed-alike _ _ (AlikeCall.start w h s percentile) = record { rasters = []; same = refl; fair = refl; count = refl; each = λ k l. absurd (omega arith) }
  changed-alike _ _ (AlikeCall.add raster raster' grey words r) = record {
    rasters = rasters ++ (raster' ∷ []);
    same = refl;
    fair = fair;
    count = more-length rasters raster' ∙ (let a = more-length S.rasters raster in omega arith);
    each = λ k l. ⊎_elim (old k) (new k l) (order k (length S.rasters));
  }
    where
      old : (k : ℕ) → k < length S.rasters → ReexposedRaster (get_or (S.rasters ++ (raster ∷ [])) k []) (get_or (rasters ++ (raster' ∷ [])) k [])
      old k l = rw (more-at S.rasters raster k l, more-at rasters raster' k (omega arith)) (each k l)

      new : (k : ℕ) → k < length (S.rasters ++ (raster ∷ [])) → length S.rasters ≤ k
          → ReexposedRaster (get_or (S.rasters ++ (raster ∷ [])) k []) (get_or (rasters ++ (raster' ∷ [])) k [])
      new k l m =
          let a = more-length S.rasters raster in
          rw (last-at S.rasters raster k (omega arith), last-at rasters raster' k (omega arith)) r
  changed-alike _ _ AlikeCall.drop = record {
    rasters = drop 1 rasters;
    same = refl;
    fair = fair;
    count = length-drop 1 rasters ∙ (let a = length-drop 1 S.rasters in omega arith);
    each = λ k l. rw (less-at S.rasters k, less-at rasters k) (each (k + 1) (let a = length-drop 1 S.rasters in omega arith));
  }
  changed-alike _ _ (AlikeCall.tell offsets) = record { rasters = rasters; same = refl; fair = fair; count = count; each = each }

-- One call of each session.
module _ (preferred : List Offset) (S S' : Session) (ok : SessionOk S) (a : Alike S S') (numbers newest : ℕ) (c d : Call) (r : AlikeCall c d) where
  number-alike : number_in S' numbers newest d ≡ number_in S numbers newest c
  number-alike =
      ap (λ (T : Session). number_in T numbers newest d) a.same
      ∙ number_at preferred S a.rasters ok a.fair a.count a.each numbers newest c d r

  reply-alike : reply_in preferred S (number_in S numbers newest c) c ≡ reply_in preferred S' (number_in S' numbers newest d) d
  reply-alike =
      sym (ap₂ (λ (T : Session) (n : ℕ). reply_in preferred T n d) a.same number-alike
      ∙ reply-at preferred S a.rasters ok a.fair a.count a.each (number_in S numbers newest c) c d r)

  next-alike : (n : ℕ) → number_in S numbers newest c ≡ n
      → Alike (if_accepted (number_in S numbers newest c) (changed S c) S) (if_accepted (number_in S' numbers newest d) (changed S' d) S')
  next-alike zero e = rw (number-alike, e, a.same) (changed-alike preferred S a.rasters ok a.fair a.count a.each c d r)
  next-alike (suc n) e = rw (number-alike, e) a

list-alike : (preferred : List Offset) (S S' : Session) → SessionOk S → Alike S S' → (cs ds : List Handed) → AlikeCalls cs ds
    → replies_in preferred S cs ≡ replies_in preferred S' ds
unfolding replies_in
list-alike preferred S S' ok a _ _ AlikeCalls.none = refl
list-alike preferred S S' ok a _ _ (AlikeCalls.more numbers newest c d cs ds r rest) =
    let n : ℕ = number_in S numbers newest c in
    ap₂ (λ (x : Reply) (xs : List Reply). x ∷ xs) (reply-alike preferred S S' ok a numbers newest c d r)
    (list-alike preferred (if_accepted n (changed S c) S) (if_accepted (number_in S' numbers newest d) (changed S' d) S')
    (next-ok S ok numbers newest c n refl) (next-alike preferred S S' ok a numbers newest c d r n refl) cs ds rest)

pub reexposed-alike : (order : List Offset) → Every (Near 1) order → ReexposedAlike order
reexposed-alike preferred steps m m' numbers newest w h s percentile cs cs' within within' e r =
    let law = live-law preferred steps in
    let S : Session = opened w h s 0 percentile in
    law.as_session m numbers newest w h s 0 percentile cs within e
    ∙ ap (λ (xs : List Reply). accepted ∷ xs)
    (list-alike preferred S S (opened-ok w h s 0 percentile numbers newest e)
    (record { rasters = []; same = refl; fair = refl; count = refl; each = λ k l. absurd (omega arith) }) cs cs' r)
    ∙ sym (law.as_session m' numbers newest w h s 0 percentile cs' within' e)

pub reexposed-alike-least : ReexposedAlike least_move_order
reexposed-alike-least = reexposed-alike least_move_order near-least
