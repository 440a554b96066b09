-- Laws of the live bracket's refusals: what is known of held memory within its limits, and of each accepted call.
use mathlib.Core.Path.{◌≡◌, refl}
use mathlib.Core.Bool.{Bool, false, ◌||◌}
use mathlib.Core.Logic.{⊎_elim}
use mathlib.Core.List.{List}
use Prim.Native.Nat.{ℕ, zero, suc, ◌*◌, ◌-◌, ◌^◌, ◌≤◌, ◌<◌}
use native.Mathlib.Omega.{arith}
use lib.Dec.{ltb, eqb}
use lib.IntN.{ℤ, nat_abs}
use lib.Pow.{pow_mono}
use borrow.Author.Tests.{ltb-false, le-ltb, eqb-false}
use Rattle.rules.specs.declared.Offset.{Offset}
use Rattle.rules.specs.Limits.{max_tolerance, max_frames, max_halvings, max_offset}
use Rattle.rules.specs.Levels.{Near}
use Rattle.rules.specs.Refusals.{◌when◌, ◌or_else◌, bad_size, bad_halvings, too_small, bad_tolerance, bad_percentile}
use Rattle.rules.specs.Refusals.{wrong_length, short, raster_length, grey_length, grey_needed, words_needed}
use Rattle.rules.proofs.SumLaws.{order}
use Rattle.rules.proofs.OffsetLaws.{near-more}
use Rattle.rules.proofs.RefusalLaws.{when-no, or_else-no, or_no, length-is, length-no, room-no, percentile-ok}
use Rattle.rules.proofs.AlignmentLaws.{shape-ok}
use Rattle.live.specs.declared.Bracket.{Bracket}
use Rattle.live.specs.Held.{held_length, bracket_of, held_pair, pairs_in}
use Rattle.live.specs.HeldOk.{BracketOk, AddOk, DropOk, TellOk}
use Rattle.live.specs.Steps.{some_far, bad_bracket, bad_held, empty_of, holding, start_number, add_number, drop_number, tell_number}

-- a bracket that none of the tests finds bad
pub record NoneBad (B : Bracket) : Type 0 where
  pub size : bad_size B.w B.h ≡ false
  pub halvings : bad_halvings B.s ≡ false
  pub small : too_small B.w B.h B.s ≡ false
  pub tolerance : bad_tolerance B.tolerance ≡ false
  pub percentile : bad_percentile B.percentile ≡ false
  pub frames : B.frames ≤ max_frames

pub none-bad : (B : Bracket) → bad_bracket B ≡ false → NoneBad B
unfolding bad_bracket
none-bad B e =
    let c3 : Bool = bad_halvings B.s in
    let c4 : Bool = too_small B.w B.h B.s in
    let c5 : Bool = bad_tolerance B.tolerance in
    let c8 : Bool = bad_percentile B.percentile in
    let many : Bool = ltb max_frames B.frames in
    let a = or_no (bad_size B.w B.h) (c3 || (c4 || (c5 || (c8 || many)))) e in
    let b = or_no c3 (c4 || (c5 || (c8 || many))) a.1 in
    let c = or_no c4 (c5 || (c8 || many)) b.1 in
    let d = or_no c5 (c8 || many) c.1 in
    let f = or_no c8 many d.1 in
    record { size = a.0; halvings = b.0; small = c.0; tolerance = d.0; percentile = f.0; frames = ltb-false max_frames B.frames f.1 }

pub not-bad : (B : Bracket) → NoneBad B → bad_bracket B ≡ false
unfolding bad_bracket
not-bad B n = rw (n.size, n.halvings, n.small, n.tolerance, n.percentile, le-ltb max_frames B.frames n.frames)

-- its limits
pub limits-ok : (B : Bracket) → NoneBad B → BracketOk B
unfolding bad_tolerance
limits-ok B n =
    let p = percentile-ok B.percentile n.percentile in
    record {
      shape = shape-ok B.w B.h B.s (rw (n.size, n.halvings, n.small));
      tolerance = ltb-false max_tolerance B.tolerance n.tolerance;
      percentile = record { least = let l = p.0 in omega arith; most = let l = p.1 in omega arith };
      frames = n.frames;
    }

pub bracket-ok : (B : Bracket) → bad_bracket B ≡ false → BracketOk B
bracket-ok B e = limits-ok B (none-bad B e)

-- the same bracket with another number of frames
pub holding-ok : (B : Bracket) (n : ℕ) → n ≤ max_frames → BracketOk B → BracketOk (holding B n)
holding-ok B n few ok = record { shape = ok.shape; tolerance = ok.tolerance; percentile = ok.percentile; frames = few }

pub far-no : (bound : ℕ) (d : ℕ → Offset) (n : ℕ) → some_far bound d n ≡ false → (k : ℕ) → k < n → Near bound (d k)
unfolding some_far
far-no bound d zero e k l = absurd (omega arith)
far-no bound d (suc n) e k l = ⊎_elim (λ (m : k < n). far-no bound d n p.0 k m) last (order k n)
  where
    p : (some_far bound d n ≡ false) × (ltb bound (nat_abs (d n).dx) || ltb bound (nat_abs (d n).dy) ≡ false)
    p = or_no (some_far bound d n) (ltb bound (nat_abs (d n).dx) || ltb bound (nat_abs (d n).dy)) e

    near : Near bound (d n)
    near =
        let q = or_no (ltb bound (nat_abs (d n).dx)) (ltb bound (nat_abs (d n).dy)) p.1 in
        record { dx = ltb-false bound (nat_abs (d n).dx) q.0; dy = ltb-false bound (nat_abs (d n).dy) q.1 }

    last : n ≤ k → Near bound (d k)
    last m = let z : k ≡ n = omega arith in rw z near

pub near-no-far : (bound : ℕ) (d : ℕ → Offset) (n : ℕ) → ((k : ℕ) → k < n → Near bound (d k)) → some_far bound d n ≡ false
unfolding some_far
near-no-far bound d zero near = refl
near-no-far bound d (suc n) near =
    let m = near n (omega arith) in
    rw (near-no-far bound d n (λ k l. near k (omega arith)), le-ltb bound (nat_abs (d n).dx) m.dx, le-ltb bound (nat_abs (d n).dy) m.dy)

pub held-ok : (numbers : List ℤ) → bad_held numbers ≡ false
    → BracketOk (bracket_of numbers) × ((k : ℕ) → k < pairs_in (bracket_of numbers) → Near (2 ^ suc (bracket_of numbers).s - 1) (held_pair numbers k))
unfolding bad_held
held-ok numbers e =
    let B : Bracket = bracket_of numbers in
    let bound : ℕ = 2 ^ suc B.s - 1 in
    let p = or_no (bad_bracket B) (some_far bound (held_pair numbers) (pairs_in B)) e in
    (bracket-ok B p.0, far-no bound (held_pair numbers) (pairs_in B) p.1)

pub near-511 : (s : ℕ) (m : Offset) → s ≤ max_halvings → Near (2 ^ suc s - 1) m → Near max_offset m
near-511 s m low = near-more (2 ^ suc s - 1) max_offset m (let p = pow_mono {i = suc s} {j = 9} (omega arith) in omega arith)

-- Accepted calls.
pub start-none-bad : (w h s tolerance percentile numbers newest : ℕ) → start_number w h s tolerance percentile numbers newest ≡ 0
    → NoneBad (empty_of w h s tolerance percentile) × (numbers ≡ held_length) × (newest ≡ w * h)
unfolding start_number
start-none-bad w h s tolerance percentile numbers newest e =
    let wrong1 : Bool = wrong_length held_length numbers in
    let wrong2 : Bool = wrong_length (grey_length w h) newest in
    let n9 : ℕ = 9 when (wrong1 || wrong2) in
    let n8 : ℕ = 8 when bad_percentile percentile in
    let n5 : ℕ = 5 when bad_tolerance tolerance in
    let n4 : ℕ = 4 when too_small w h s in
    let n3 : ℕ = 3 when bad_halvings s in
    let n2 : ℕ = 2 when bad_size w h in
    let a = or_else-no n2 (n3 or_else n4 or_else n5 or_else n8 or_else n9) e in
    let b = or_else-no n3 (n4 or_else n5 or_else n8 or_else n9) a.1 in
    let c = or_else-no n4 (n5 or_else n8 or_else n9) b.1 in
    let d = or_else-no n5 (n8 or_else n9) c.1 in
    let f = or_else-no n8 n9 d.1 in
    let g = or_no wrong1 wrong2 (when-no 9 (wrong1 || wrong2) (omega arith) f.1) in (
      record {
        size = when-no 2 (bad_size w h) (omega arith) a.0;
        halvings = when-no 3 (bad_halvings s) (omega arith) b.0;
        small = when-no 4 (too_small w h s) (omega arith) c.0;
        tolerance = when-no 5 (bad_tolerance tolerance) (omega arith) d.0;
        percentile = when-no 8 (bad_percentile percentile) (omega arith) f.0;
        frames = omega arith;
      },
      length-is held_length numbers g.0,
      length-is (grey_length w h) newest g.1,
    )

pub start-ok : (w h s tolerance percentile numbers newest : ℕ) → start_number w h s tolerance percentile numbers newest ≡ 0
    → BracketOk (empty_of w h s tolerance percentile) × (numbers ≡ held_length) × (newest ≡ w * h)
start-ok w h s tolerance percentile numbers newest e =
    let a = start-none-bad w h s tolerance percentile numbers newest e in
    (limits-ok (empty_of w h s tolerance percentile) a.0, a.1, a.2)

pub add_ok : (bad : Bool) (B : Bracket) (numbers newest raster grey words : ℕ) → add_number bad B numbers newest raster grey words ≡ 0
    → AddOk bad B numbers newest raster grey words
unfolding add_number
add_ok bad B numbers newest raster grey words e =
    let short1 : Bool = short (grey_needed B.s B.w B.h) grey in
    let short2 : Bool = short (words_needed B.w B.h) words in
    let n11 : ℕ = 11 when (short1 || short2) in
    let wrong1 : Bool = wrong_length (grey_length B.w B.h) newest in
    let wrong2 : Bool = wrong_length (raster_length B.w B.h) raster in
    let n9 : ℕ = 9 when (wrong1 || wrong2) in
    let n6 : ℕ = 6 when eqb B.frames max_frames in
    let n16 : ℕ = 16 when bad in
    let first : ℕ = 9 when wrong_length held_length numbers in
    let a = or_else-no first (n16 or_else n6 or_else n9 or_else n11) e in
    let b = or_else-no n16 (n6 or_else n9 or_else n11) a.1 in
    let c = or_else-no n6 (n9 or_else n11) b.1 in
    let d = or_else-no n9 n11 c.1 in
    let p = or_no wrong1 wrong2 (when-no 9 (wrong1 || wrong2) (omega arith) d.0) in
    let q = or_no short1 short2 (when-no 11 (short1 || short2) (omega arith) d.1) in
    let full = eqb-false B.frames max_frames (when-no 6 (eqb B.frames max_frames) (omega arith) c.0) in
    record {
      limits = when-no 16 bad (omega arith) b.0;
      exact1 = length-no held_length numbers a.0;
      exact2 = length-is (grey_length B.w B.h) newest p.0;
      exact3 = length-is (raster_length B.w B.h) raster p.1;
      place = λ l. omega arith;
      greys = ltb-false grey (grey_needed B.s B.w B.h) q.0;
      bitmaps = ltb-false words (words_needed B.w B.h) q.1;
    }

pub drop-ok : (bad : Bool) (B : Bracket) (numbers newest : ℕ) → drop_number bad B numbers newest ≡ 0 → DropOk bad B numbers newest
unfolding drop_number
drop-ok bad B numbers newest e =
    let none : Bool = eqb B.frames 0 in
    let n9 : ℕ = 9 when wrong_length (grey_length B.w B.h) newest in
    let n16 : ℕ = 16 when (bad || none) in
    let a = or_else-no (9 when wrong_length held_length numbers) (n16 or_else n9) e in
    let b = or_else-no n16 n9 a.1 in
    let c = or_no bad none (when-no 16 (bad || none) (omega arith) b.0) in
    let full = eqb-false B.frames 0 c.1 in
    record {
      limits = c.0;
      exact1 = length-no held_length numbers a.0;
      exact2 = length-no (grey_length B.w B.h) newest b.1;
      some = omega arith;
    }

pub tell_ok : (bad : Bool) (B : Bracket) (numbers newest offsets : ℕ) → tell_number bad B numbers newest offsets ≡ 0 → TellOk bad B numbers newest offsets
unfolding tell_number
tell_ok bad B numbers newest offsets e =
    let n10 : ℕ = 10 when short (2 * B.frames) offsets in
    let n9 : ℕ = 9 when wrong_length (grey_length B.w B.h) newest in
    let n16 : ℕ = 16 when bad in
    let a = or_else-no (9 when wrong_length held_length numbers) (n16 or_else n9 or_else n10) e in
    let b = or_else-no n16 (n9 or_else n10) a.1 in
    let c = or_else-no n9 n10 b.1 in
    record {
      limits = when-no 16 bad (omega arith) b.0;
      exact1 = length-no held_length numbers a.0;
      exact2 = length-no (grey_length B.w B.h) newest c.0;
      room = room-no (2 * B.frames) offsets c.1;
    }
