-- Laws of held numbers written one after another, and of what they then read as.
use mathlib.Core.Path.{◌≡◌, refl, sym, ap, ◌∙◌}
use mathlib.Core.Bool.{cond}
use mathlib.Core.Logic.{⊎_elim}
use mathlib.Core.List.{List, [], ◌∷◌, ◌++◌, append-nil}
use Prim.Native.Nat.{ℕ, ◌+◌, ◌*◌, ◌-◌, ◌≤◌, ◌<◌}
use native.Mathlib.Omega.{arith}
use lib.Dec.{eqb}
use lib.IntN.{ℤ, pos}
use borrow.Author.Rules.{rules}
use Rattle.std.proofs.lemmas.List.{places}
use lib.ListN.{replicate, length, get_or, set, take, drop, length-set, length-append, length-drop, get_or-append}
use lib.Seq.{get_or-set_same, get_or-set_other, get_or-drop, get_or-append-add, sets-eq, take_all, drop_at, drop-length, length-take-le}
use borrow.Rule.Slice.PartMut.{put_mid, post_of, Post-is, same_len_mid}
use mir.Syntax.{w32}
use mir.Val.{to_z}
use mir.Facts.{to_z_pos}
use borrow.Author.Tests.{eq-eqb, ne_eqb}
use Rattle.rules.specs.declared.Offset.{Offset}
use Rattle.rules.specs.Limits.{max_frames}
use Rattle.rules.specs.Frames.{written_over}
use Rattle.rules.proofs.SumLaws.{order}
use Rattle.offsets.specs.PairOffsets.{pair_offset, with_offset}
use Rattle.live.specs.declared.Bracket.{Bracket}
use Rattle.live.specs.Held.{held_length, pair_place, held_pair, pairs_in, layout}
use Rattle.live.specs.Steps.{extended}
use Rattle.live.proofs.HeldLaws.{layout_is, pair_same}
use Rattle.held_writes.specs.HeldWrites.{first_numbers, ZeroFrom, PairPut, PairDropped}

-- A store at place i, read at any place.
stored : (l : List ℤ) (i j : ℕ) (z : ℤ) → i < length l → j ≡ i → get_or (set l i z) j (pos 0) ≡ z
stored l i j z h e = rw e (get_or-set_same l i z (pos 0) h)

beside : (l : List ℤ) (i j : ℕ) (z : ℤ) → (j ≡ i → ⊥) → get_or (set l i z) j (pos 0) ≡ get_or l j (pos 0)
beside l i j z h = get_or-set_other l i j z (pos 0) h

-- The numbers from `from` on, filled with 0 as a part of m numbers.
pub zero_from : (from m : ℕ) (before part : List ℤ) → from ≤ length before → m ≡ length before - from
    → part ≡ replicate (length (take m (drop from before))) (pos 0) → ZeroFrom from before (put_mid from m before part)
zero_from from m before part k same is = record {
  len = search (rules, places);
  under = λ j l. search (rules, places);
  zeros = λ j l r. search (rules, places);
}

-- The numbers of n pairs, copied from two places on.
pub moved-pairs : (n : ℕ) (before after : List ℤ) → length after ≡ length before
    → ((j : ℕ) → pair_place ≤ j → j < pair_place + 2 * n → get_or after j (pos 0) ≡ get_or before (8 + (j - pair_place)) (pos 0)) → PairDropped n before after
moved-pairs n before after size copied = record {
  len = size;
  pairs = λ k l. λ m. record { dx = at (2 * k) (2 * (k + 1)) (omega arith) (omega arith) m; dy = at (2 * k + 1) (2 * (k + 1) + 1) (omega arith) (omega arith) m };
}
  where
    at : (j j' : ℕ) → j < 2 * n → j + 2 ≡ j' → get_or (drop pair_place after) j (pos 0) ≡ get_or (drop pair_place before) j' (pos 0)
    at j j' k e =
        get_or-drop pair_place after j (pos 0)
        ∙ copied (pair_place + j) (omega arith) (omega arith)
        ∙ ap (λ (i : ℕ). get_or before i (pos 0)) (let d : 8 + (pair_place + j - pair_place) ≡ pair_place + j' = omega arith in d)
        ∙ sym (get_or-drop pair_place before j' (pos 0))

-- A pair written into the part that begins after the first numbers.
part-read : (l ys : List ℤ) → length l ≡ held_length → drop pair_place (put_mid pair_place (length l - pair_place) l ys) ≡ ys
part-read l ys size =
    drop_at (take pair_place l) (ys ++ post) pair_place (length-take-le pair_place l (omega arith))
    ∙ ap (λ (r : List ℤ). ys ++ r) (Post-is pair_place (length l) l (omega arith) ∙ drop-length l)
    ∙ append-nil ys
  where
    post : List ℤ
    post = post_of pair_place (length l - pair_place) l

pub pair_put : (k : ℕ) (m : Offset) (before after : List ℤ) → length before ≡ held_length → k < 15
    → (part : List ℤ) → part ≡ with_offset k m (take (length before - pair_place) (drop pair_place before)) → after ≡ put_mid pair_place (length before - pair_place) before part
    → PairPut k m before after
unfolding extended
pair_put k m before after size small part put back = record { len = len; pairs = pair }
  where
    l : List ℤ
    l = drop pair_place before

    room : length l ≡ 30
    room = let e = length-drop pair_place before in omega arith

    whole : take (length before - pair_place) l ≡ l
    whole = take_all (length before - pair_place) l (let r = room in omega arith)

    read : drop pair_place after ≡ with_offset k m l
    read = rw (back, part-read before part size, put, whole)

    len : length after ≡ length before
    len =
        ap length back
        ∙ same_len_mid pair_place (length before - pair_place) before part
        (rw (put, length-set (set (take (length before - pair_place) l) (2 * k) m.dx) (2 * k + 1) m.dy, length-set (take (length before - pair_place) l) (2 * k) m.dx))

    first : List ℤ
    first = set l (2 * k) m.dx

    longer : length first ≡ 30
    longer = length-set l (2 * k) m.dx ∙ room

    written : (j : ℕ) → pair_offset (with_offset k m l) j ≡ cond (eqb j k) m (pair_offset l j)
    written j = ⊎_elim under over (order j k)
      where
        other : (j ≡ k → ⊥) → pair_offset (with_offset k m l) j ≡ cond (eqb j k) m (pair_offset l j)
        other h = rw (ne_eqb j k h) (λ i. record {
          dx = (beside first (2 * k + 1) (2 * j) m.dy (λ e. omega arith) ∙ beside l (2 * k) (2 * j) m.dx (λ e. h (omega arith))) i;
          dy = (beside first (2 * k + 1) (2 * j + 1) m.dy (λ e. h (omega arith)) ∙ beside l (2 * k) (2 * j + 1) m.dx (λ e. omega arith)) i;
        })

        same : j ≡ k → pair_offset (with_offset k m l) j ≡ cond (eqb j k) m (pair_offset l j)
        same e = rw (eq-eqb j k e) (λ i. record {
          dx = (beside first (2 * k + 1) (2 * j) m.dy (λ e. omega arith) ∙ stored l (2 * k) (2 * j) m.dx (let r = room in omega arith) (omega arith)) i;
          dy = stored first (2 * k + 1) (2 * j + 1) m.dy (let r = longer in omega arith) (omega arith) i;
        })

        under : j < k → pair_offset (with_offset k m l) j ≡ cond (eqb j k) m (pair_offset l j)
        under h = other (λ e. omega arith)

        over : k ≤ j → pair_offset (with_offset k m l) j ≡ cond (eqb j k) m (pair_offset l j)
        over h = ⊎_elim (λ (g : k < j). other (λ e. omega arith)) (λ (g : j ≤ k). same (omega arith)) (order k j)

    pair : (j : ℕ) → held_pair after j ≡ extended (held_pair before) k m j
    pair j = ap (λ (xs : List ℤ). pair_offset xs j) read ∙ written j

-- The first numbers, one after another.
pub first-put : (l : List ℤ) (a b c d e f : ℤ) → 6 ≤ length l
    → set (set (set (set (set (set l 0 a) 1 b) 2 c) 3 d) 4 e) 5 f ≡ a ∷ b ∷ c ∷ d ∷ e ∷ f ∷ drop 6 l
first-put l a b c d e f room = sets-eq (a ∷ b ∷ c ∷ d ∷ e ∷ f ∷ []) l 0 room

-- a small number as the machine keeps it
pub small_is : (n : ℕ) → n ≤ 65535 → to_z w32 n ≡ pos n
small_is n l = to_z_pos w32 (omega arith)

-- The bracket written beside its pairs, and 0 after them.
pub bracket-put : (B : Bracket) (from : ℕ) (before first after : List ℤ) → B.frames ≤ max_frames → length before ≡ held_length → from ≡ pair_place + 2 * pairs_in B
    → first ≡ written_over (first_numbers B) before → ZeroFrom from first after → after ≡ layout B (held_pair before)
bracket-put B from before first after few size place put cleared = layout_is B (held_pair before) after few (record {
  size = cleared.len ∙ long;
  w = number 0 (omega arith) (pos B.w) refl;
  h = number 1 (omega arith) (pos B.h) refl;
  s = number 2 (omega arith) (pos B.s) refl;
  tolerance = number 3 (omega arith) (pos B.tolerance) refl;
  percentile = number 4 (omega arith) (pos B.percentile) refl;
  frames = number 5 (omega arith) (pos B.frames) refl;
  pairs = λ k l. pair_same after before k (kept (2 * k) (omega arith)) (kept (2 * k + 1) (omega arith));
  zeros = λ i k l. cleared.zeros i (omega arith) (let e = long in omega arith);
})
  where
    long : length first ≡ held_length
    long = ap length put ∙ length-append (first_numbers B) (drop 6 before) ∙ (let e = length-drop 6 before in omega arith)

    number : (i : ℕ) → i < 6 → (z : ℤ) → get_or (first_numbers B) i (pos 0) ≡ z → get_or after i (pos 0) ≡ z
    number i l z e = cleared.under i (omega arith) ∙ ap (λ (xs : List ℤ). get_or xs i (pos 0)) put ∙ get_or-append (first_numbers B) (drop 6 before) (pos 0) i l ∙ e

    kept : (j : ℕ) → j < 2 * pairs_in B → get_or after (pair_place + j) (pos 0) ≡ get_or before (pair_place + j) (pos 0)
    kept j l =
        cleared.under (pair_place + j) (omega arith)
        ∙ ap (λ (xs : List ℤ). get_or xs (pair_place + j) (pos 0)) put
        ∙ get_or-append-add (first_numbers B) (drop 6 before) j (pos 0)
        ∙ get_or-drop 6 before j (pos 0)
