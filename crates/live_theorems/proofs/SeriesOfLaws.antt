-- The series call on the frames of a session: its pairs are the pairs of neighbours, and it is accepted.
use mathlib.Core.Path.{◌≡◌, refl, sym, ap, ◌∙◌}
use mathlib.Core.Bool.{false}
use mathlib.Core.List.{List, [], ◌∷◌, ◌++◌}
use Prim.Native.Nat.{ℕ, zero, suc, ◌+◌, ◌*◌, ◌-◌, ◌≤◌, ◌<◌}
use native.Mathlib.Nat.{zero-mul, suc-mul}
use native.Mathlib.Omega.{arith}
use lib.IntN.{ℤ}
use lib.ListN.{length, get_or, drop, replicate, length-append, length-replicate, get_or-replicate, get_or-append}
use lib.Seq.{get_or-append-add, get_or-drop}
use borrow.Author.Tests.{eq-eqb, ne_eqb, le-ltb, lt-ltb}
use Rattle.rules.specs.declared.Offset.{Offset}
use Rattle.rules.specs.declared.Exclusion.{Exclusion}
use Rattle.rules.specs.Limits.{max_frames}
use Rattle.rules.specs.Frames.{Frame, SameFrame}
use Rattle.rules.specs.Greys.{grey, grey_frame}
use Rattle.rules.specs.Levels.{rule_of, Aligned, aligned_by, pair}
use Rattle.rules.specs.Series.{grey_of, pair_of, frame_offset, offset_list, answer_of, answer_by, series_answer}
use Rattle.rules.specs.Refusals.{some_bad_percentile, bad_percentiles, bad_frames, bad_reference, counts_length, grey_needed, words_needed, raster_length, series_refusal}
use Rattle.rules.specs.Calls.{series_number}
use Rattle.rules.proofs.FrameLaws.{pixel-fits}
use Rattle.rules.proofs.PairLaws.{pair-ext}
use Rattle.live.specs.Steps.{setup_in}
use Rattle.live_theorems.specs.Sessions.{Session, bracket_in, all_rasters, series_of, series_offsets}
use Rattle.live_theorems.proofs.UsedLaws.{Used}
use Rattle.live_theorems.proofs.ReplyLaws.{list-by}
use Rattle.live_theorems.proofs.SessionLaws.{SessionOk}

-- frame k of a session
abbrev pub grey_in : Session → ℕ → Frame
grey_in S k = grey_frame S.w (get_or S.rasters k [])

-- what a memory that holds the session shows: the pairs of neighbours, and the last frame
abbrev pub used_in : List Offset → Session → Used
used_in order S =
    record {
      bracket = bracket_in S;
      pairs = λ k. (aligned_by order (setup_in (bracket_in S)) (grey_in S k) (grey_in S (k + 1))).offset;
      frame = grey_in S (length S.rasters - 1);
    }

-- Rasters of one length, one after another.
all-length : (each : ℕ) (rasters : List (List ℕ)) → ((k : ℕ) → k < length rasters → length (get_or rasters k []) ≡ each) → length (all_rasters rasters) ≡ length rasters * each
unfolding all_rasters
all-length each [] sizes = sym (zero-mul each)
all-length each (raster ∷ rasters) sizes =
    length-append raster (all_rasters rasters)
    ∙ (let a = sizes 0 (omega arith) in let b = all-length each rasters (λ k l. sizes (suc k) (omega arith)) in let c = suc-mul (length rasters) each in omega arith)

all-at : (each : ℕ) (rasters : List (List ℕ)) → ((k : ℕ) → k < length rasters → length (get_or rasters k []) ≡ each)
    → (k i : ℕ) → k < length rasters → i < each → get_or (all_rasters rasters) (k * each + i) 0 ≡ get_or (get_or rasters k []) i 0
unfolding all_rasters
all-at each [] sizes k i l m = absurd (omega arith)
all-at each (raster ∷ rasters) sizes zero i l m =
    let a = sizes 0 (omega arith) in
    ap (λ (j : ℕ). get_or (raster ++ all_rasters rasters) j 0) (let z = zero-mul each in omega arith)
    ∙ get_or-append raster (all_rasters rasters) 0 i (omega arith)
all-at each (raster ∷ rasters) sizes (suc k) i l m =
    let a = sizes 0 (omega arith) in
    let e : suc k * each + i ≡ length raster + (k * each + i) = let c = suc-mul k each in omega arith in
    ap (λ (j : ℕ). get_or (raster ++ all_rasters rasters) j 0) e
    ∙ get_or-append-add raster (all_rasters rasters) (k * each + i) 0
    ∙ all-at each rasters (λ j n. sizes (suc j) (omega arith)) k i (omega arith) m

module _ (S : Session) (ok : SessionOk S) where
  series-frame : (k : ℕ) → k < length S.rasters → SameFrame S.w S.h (grey_of (series_of S) (all_rasters S.rasters) k) (grey_in S k)
  unfolding grey_of grey_frame
  series-frame k l x y i j =
      let p : ℕ = y * S.w + x in
      let fits : p < S.w * S.h = pixel-fits S.w S.h x y i j in
      λ t. grey (byte (3 * p) (omega arith) t) (byte (3 * p + 1) (omega arith) t) (byte (3 * p + 2) (omega arith) t)
    where
      byte : (a : ℕ) → a < 3 * (S.w * S.h) → get_or (drop (k * (3 * (S.w * S.h))) (all_rasters S.rasters)) a 0 ≡ get_or (get_or S.rasters k []) a 0
      byte a m = get_or-drop (k * (3 * (S.w * S.h))) (all_rasters S.rasters) a 0 ∙ all-at (3 * (S.w * S.h)) S.rasters ok.sizes k a l m

  module _ (order : List Offset) where
    abbrev series_pairs : ℕ → Aligned
    series_pairs =
        pair_of (λ p. pair order (rule_of (Exclusion.Tolerance S.tolerance)) p S.s S.w S.h) (replicate (length S.rasters - 1) S.percentile)
        (grey_of (series_of S) (all_rasters S.rasters))

    -- a pair of the series is the pair of two neighbours
    series-pair : (k : ℕ) → k < length S.rasters - 1 → (series_pairs k).offset ≡ (used_in order S).pairs k
    unfolding pair_of
    series-pair k l =
        ap (λ (a : Aligned). a.offset)
        (ap (λ (p : ℕ). pair order (rule_of (Exclusion.Tolerance S.tolerance)) p S.s S.w S.h (grey_of (series_of S) (all_rasters S.rasters) k) (grey_of (series_of S) (all_rasters S.rasters) (k + 1)))
        (get_or-replicate (length S.rasters - 1) k S.percentile 0 l)
        ∙ pair-ext order (rule_of (Exclusion.Tolerance S.tolerance)) S.percentile S.s S.w S.h
        (grey_of (series_of S) (all_rasters S.rasters) k) (grey_in S k) (grey_of (series_of S) (all_rasters S.rasters) (k + 1)) (grey_in S (k + 1))
        (series-frame k (omega arith)) (series-frame (k + 1) (omega arith)))

    -- the offsets that the session tells, from the pairs of neighbours
    pub series-told : series_offsets order S ≡ offset_list (length S.rasters) (frame_offset (used_in order S).pairs 0)
    unfolding series_answer answer_by answer_of
    series-told = list-by (length S.rasters) (λ k. (series_pairs k).offset) (used_in order S).pairs series-pair

  none-some : (n : ℕ) → some_bad_percentile (replicate n S.percentile) ≡ false
  unfolding some_bad_percentile
  none-some zero = refl
  none-some (suc n) = rw ok.limits.percentile (none-some n)

  -- the series call takes the session's frames
  pub series-takes : (offsets : List ℤ) (counts compared grey words : List ℕ) → 0 < length S.rasters → 2 * length S.rasters ≤ length offsets
      → counts_length S.s * (length S.rasters - 1) ≤ length counts → counts_length S.s * (length S.rasters - 1) ≤ length compared
      → grey_needed S.s S.w S.h ≤ length grey → words_needed S.w S.h ≤ length words
      → series_number (series_of S) (all_rasters S.rasters) offsets counts compared grey words ≡ 0
  unfolding series_refusal bad_frames bad_reference bad_percentiles
  series-takes offsets counts compared grey words some r1 r2 r3 r4 r5 =
      let n : ℕ = length S.rasters in
      rw (
        ok.limits.size,
        ok.limits.halvings,
        ok.limits.small,
        ok.limits.tolerance,
        ne_eqb n 0 (λ e. omega arith),
        le-ltb max_frames n ok.limits.frames,
        lt-ltb 0 n some,
        eq-eqb (length (replicate (n - 1) S.percentile)) (n - 1) (length-replicate (n - 1) S.percentile),
        none-some (n - 1),
        eq-eqb (length (all_rasters S.rasters)) (n * raster_length S.w S.h) (all-length (3 * (S.w * S.h)) S.rasters ok.sizes),
        le-ltb (length offsets) (2 * n) r1,
        le-ltb (length counts) (counts_length S.s * (n - 1)) r2,
        le-ltb (length compared) (counts_length S.s * (n - 1)) r3,
        le-ltb (length grey) (grey_needed S.s S.w S.h) r4,
        le-ltb (length words) (words_needed S.w S.h) r5,
      )
