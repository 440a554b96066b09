-- What an accepted call leaves of what is used; the slices stay as long as they were.
use mathlib.Core.Path.{◌≡◌, refl, sym, ap, subst, ◌∙◌}
use mathlib.Core.Bool.{cond}
use mathlib.Core.Logic.{⊎_elim}
use mathlib.Core.List.{List}
use Prim.Native.Nat.{ℕ, zero, suc, ◌+◌, ◌*◌, ◌-◌, ◌^◌, ◌≤◌, ◌<◌}
use native.Mathlib.Omega.{arith}
use lib.Dec.{eqb}
use lib.ListN.{length}
use borrow.Author.Tests.{eq-eqb, ne_eqb}
use Rattle.rules.specs.declared.Offset.{Offset}
use Rattle.rules.specs.Limits.{max_frames}
use Rattle.rules.specs.Frames.{Frame, frame_of, rows}
use Rattle.rules.specs.Greys.{grey_frame}
use Rattle.rules.specs.Levels.{still, rule_of, Aligned, aligned_by}
use Rattle.rules.proofs.SumLaws.{order}
use Rattle.rules.proofs.FrameLaws.{length-rows, get_d_rows}
use Rattle.rules.proofs.PairLaws.{pair-ext}
use Rattle.rules.proofs.RefusalLaws.{or_no}
use Rattle.live.specs.declared.Bracket.{Bracket}
use Rattle.live.specs.Held.{Memory, held_length, bracket_of, held_pair, pairs_in, layout}
use Rattle.live.specs.Steps.{Call, some_far, bad_bracket, number_of, empty_of, holding, setup_in, new_pair, extended, started, grown, shrunk, made, step}
use Rattle.live.proofs.HeldLaws.{layout-length, bracket-read, pair_read}
use Rattle.live.proofs.LimitLaws.{bracket-ok, start-ok, add_ok, drop-ok, tell_ok}
use Rattle.live_theorems.proofs.UsedLaws.{Used, Numbered, Shows, Uses, used_of, uses-own}
use Rattle.live_theorems.proofs.NumberLaws.{bad_by, number_by, number-by}

-- What an accepted call leaves of it.
unfoldable pub used_after : List Offset → Used → Call → Used
used_after order u (Call.Start w h s tolerance percentile) = record { bracket = empty_of w h s tolerance percentile; pairs = λ k. still; frame = u.frame }
used_after order u (Call.Add raster grey words) =
    record {
      bracket = holding u.bracket (u.bracket.frames + 1);
      pairs = extended u.pairs (pairs_in u.bracket) (aligned_by order (setup_in u.bracket) u.frame (grey_frame u.bracket.w raster)).offset;
      frame = grey_frame u.bracket.w raster;
    }
used_after order u Call.Drop = record { bracket = holding u.bracket (u.bracket.frames - 1); pairs = λ k. u.pairs (k + 1); frame = u.frame }
used_after order u (Call.Tell offsets) = u

-- It was handed 36 numbers and w·h bytes, and holds 16 frames at most.
pub accepted-sizes : (order : List Offset) (u : Used) (numbers newest : ℕ) (c : Call) → number_by u numbers newest c ≡ 0
    → (numbers ≡ held_length) × (newest ≡ (used_after order u c).bracket.w * (used_after order u c).bracket.h) × ((used_after order u c).bracket.frames ≤ max_frames)
unfolding number_by used_after
accepted-sizes order u numbers newest (Call.Start w h s tolerance percentile) e =
    let a = start-ok w h s tolerance percentile numbers newest e in
    (a.1, a.2, omega arith)
accepted-sizes order u numbers newest (Call.Add raster grey words) e =
    let a = add_ok (bad_by u) u.bracket numbers newest (length raster) grey words e in
    let b = or_no (bad_bracket u.bracket) (some_far (2 ^ suc u.bracket.s - 1) u.pairs (pairs_in u.bracket)) a.limits in
    let f = a.place (bracket-ok u.bracket b.0).frames in
    (a.exact1, a.exact2, omega arith)
accepted-sizes order u numbers newest Call.Drop e =
    let a = drop-ok (bad_by u) u.bracket numbers newest e in
    let b = or_no (bad_bracket u.bracket) (some_far (2 ^ suc u.bracket.s - 1) u.pairs (pairs_in u.bracket)) a.limits in
    let f = (bracket-ok u.bracket b.0).frames in
    (a.exact1, a.exact2, omega arith)
accepted-sizes order u numbers newest (Call.Tell offsets) e =
    let a = tell_ok (bad_by u) u.bracket numbers newest offsets e in
    let b = or_no (bad_bracket u.bracket) (some_far (2 ^ suc u.bracket.s - 1) u.pairs (pairs_in u.bracket)) a.limits in
    (a.exact1, a.exact2, (bracket-ok u.bracket b.0).frames)

-- a layout holds its bracket and its pairs
laid : (u : Used) (d : ℕ → Offset) → ((k : ℕ) → k < pairs_in u.bracket → d k ≡ u.pairs k) → Numbered u (layout u.bracket d)
laid u d same = record { bracket = bracket-read u.bracket d; pairs = λ k l. pair_read u.bracket d k l ∙ same k l }

-- the pairs and one more
extended-same : (d e : ℕ → Offset) (n : ℕ) (a b : Offset) → ((k : ℕ) → k < n - 1 → d k ≡ e k) → (0 < n → a ≡ b)
    → (k : ℕ) → k < n + 1 - 1 → extended d (n - 1) a k ≡ extended e (n - 1) b k
unfolding extended
extended-same d e n a b same last k l = ⊎_elim old new (order k (n - 1))
  where
    old : k < n - 1 → cond (eqb k (n - 1)) a (d k) ≡ cond (eqb k (n - 1)) b (e k)
    old m = rw (ne_eqb k (n - 1) (λ z. omega arith)) (same k m)

    new : n - 1 ≤ k → cond (eqb k (n - 1)) a (d k) ≡ cond (eqb k (n - 1)) b (e k)
    new m = rw (eq-eqb k (n - 1) (omega arith)) (last (omega arith))

module _ (preferred : List Offset) (u : Used) (m : Memory) (r : Uses u m) where
  new-same : (raster : List ℕ) → 0 < u.bracket.frames
      → new_pair preferred u.bracket m.newest raster ≡ (aligned_by preferred (setup_in u.bracket) u.frame (grey_frame u.bracket.w raster)).offset
  unfolding new_pair
  new-same raster l =
      let B : Bracket = u.bracket in
      let g : Frame = grey_frame B.w raster in
      ap (λ (a : Aligned). a.offset)
      (pair-ext preferred (rule_of (setup_in B).exclusion) B.percentile B.s B.w B.h (frame_of B.w m.newest) u.frame g g (r.shows l) (λ x y i j. refl))

  pub made-uses : (c : Call) → Uses (used_after preferred u c) (made preferred m c)
  unfolding made used_after started grown shrunk frame_of
  made-uses (Call.Start w h s tolerance percentile) = record {
    numbered = laid (used_after preferred u (Call.Start w h s tolerance percentile)) (λ k. still) (λ k l. refl);
    shows = λ l. absurd (omega arith);
  }
  made-uses (Call.Add raster grey words) = record {
    numbered =
        subst (λ (B : Bracket). Numbered (used_after preferred u (Call.Add raster grey words)) (layout (holding B (B.frames + 1)) (extended (held_pair m.numbers) (pairs_in B) (new_pair preferred B m.newest raster))))
        (sym r.numbered.bracket)
        (laid (used_after preferred u (Call.Add raster grey words)) (extended (held_pair m.numbers) (pairs_in u.bracket) (new_pair preferred u.bracket m.newest raster))
        (extended-same (held_pair m.numbers) u.pairs u.bracket.frames _ _ r.numbered.pairs (new-same raster)));
    shows =
        subst (λ (B : Bracket). Shows (used_after preferred u (Call.Add raster grey words)) (rows B.w B.h (grey_frame B.w raster)))
        (sym r.numbered.bracket)
        (λ l x y i j. get_d_rows u.bracket.w u.bracket.h (grey_frame u.bracket.w raster) x y i j);
  }
  made-uses Call.Drop = record {
    numbered =
        subst (λ (B : Bracket). Numbered (used_after preferred u Call.Drop) (layout (holding B (B.frames - 1)) (λ k. held_pair m.numbers (k + 1))))
        (sym r.numbered.bracket)
        (laid (used_after preferred u Call.Drop) (λ k. held_pair m.numbers (k + 1)) (λ k l. r.numbered.pairs (k + 1) (omega arith)));
    shows = λ l. r.shows (omega arith);
  }
  made-uses (Call.Tell offsets) = r

-- The slices as a step leaves them are as long as they were.
made-sizes : (preferred : List Offset) (m : Memory) (c : Call) → length m.numbers ≡ held_length
    → length m.newest ≡ (used_after preferred (used_of m) c).bracket.w * (used_after preferred (used_of m) c).bracket.h
    → (used_after preferred (used_of m) c).bracket.frames ≤ max_frames
    → (length (made preferred m c).numbers ≡ length m.numbers) × (length (made preferred m c).newest ≡ length m.newest)
unfolding made used_after started grown shrunk
made-sizes preferred m (Call.Start w h s tolerance percentile) numbers newest few = (layout-length (empty_of w h s tolerance percentile) (λ k. still) few ∙ sym numbers, refl)
made-sizes preferred m (Call.Add raster grey words) numbers newest few =
    let B : Bracket = bracket_of m.numbers in (
      layout-length (holding B (B.frames + 1)) (extended (held_pair m.numbers) (pairs_in B) (new_pair preferred B m.newest raster)) few ∙ sym numbers,
      length-rows B.w B.h (grey_frame B.w raster) ∙ sym newest,
    )
made-sizes preferred m Call.Drop numbers newest few =
    let B : Bracket = bracket_of m.numbers in
    (layout-length (holding B (B.frames - 1)) (λ k. held_pair m.numbers (k + 1)) few ∙ sym numbers, refl)
made-sizes preferred m (Call.Tell offsets) numbers newest few = (refl, refl)

abbrev pub SameLengths : Memory → Memory → Type 0
SameLengths m m' = (length m.numbers ≡ length m'.numbers) × (length m.newest ≡ length m'.newest)

pub made-lengths : (preferred : List Offset) (m : Memory) (c : Call) → number_of m c ≡ 0 → SameLengths (made preferred m c) m
made-lengths preferred m c e =
    let a = accepted-sizes preferred (used_of m) (length m.numbers) (length m.newest) c (sym (number-by (used_of m) m c (λ z. (uses-own m).numbered)) ∙ e) in
    made-sizes preferred m c a.0 a.1 a.2

pub step-taken : (preferred : List Offset) (m : Memory) (c : Call) → number_of m c ≡ 0 → (step preferred m c).memory ≡ made preferred m c
unfolding step
step-taken preferred m c e = rw e

pub step-refused : (preferred : List Offset) (m : Memory) (c : Call) (n : ℕ) → number_of m c ≡ suc n → (step preferred m c).memory ≡ m
unfolding step
step-refused preferred m c n e = rw e

pub step-lengths : (preferred : List Offset) (m : Memory) (c : Call) (n : ℕ) → number_of m c ≡ n → SameLengths (step preferred m c).memory m
step-lengths preferred m c zero e = rw (step-taken preferred m c e) (made-lengths preferred m c e)
step-lengths preferred m c (suc n) e = rw (step-refused preferred m c n e) (refl, refl)
