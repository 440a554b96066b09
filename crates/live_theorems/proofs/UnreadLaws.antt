-- Memories that agree in what is used answer alike, whatever the rest holds; and the unused numbers are written 0.
use mathlib.Core.Path.{◌≡◌, refl, sym, ap, ap₂, subst, ◌∙◌}
use mathlib.Core.Logic.{⊎_elim}
use mathlib.Core.List.{List, [], ◌∷◌}
use Prim.Native.Nat.{ℕ, zero, suc, ◌+◌, ◌*◌, ◌-◌, ◌≤◌, ◌<◌}
use native.Mathlib.Omega.{arith}
use lib.IntN.{ℤ, pos}
use lib.ListN.{length, get_or, take, drop, length-take, get_or-eq_default}
use lib.Seq.{get_or-take, get_or-drop}
use Rattle.rules.specs.declared.Offset.{Offset}
use Rattle.rules.specs.Frames.{SameFrame, frame_of}
use Rattle.rules.specs.Levels.{still}
use Rattle.rules.proofs.SumLaws.{order}
use Rattle.live.specs.declared.Bracket.{Bracket}
use Rattle.live.specs.Held.{Memory, held_length, pair_place, bracket_of, held_pair, pairs_in, layout}
use Rattle.live.specs.Steps.{Call, Reply, number_of, empty_of, holding, new_pair, extended, made, started, grown, shrunk, step}
use Rattle.live.proofs.HeldLaws.{bracket-read, zero-read, bracket-same, pair_same}
use Rattle.live_theorems.specs.Runs.{Handed, slices_of, after_call, replies}
use Rattle.live_theorems.specs.UsedMemory.{Agree, Unread, ZeroPastPairs, Changes, ZerosWritten}
use Rattle.live_theorems.proofs.UsedLaws.{Used, Uses, used_of, uses-own}
use Rattle.live_theorems.proofs.NumberLaws.{number_by, number-by}
use Rattle.live_theorems.proofs.MadeLaws.{used_after, accepted-sizes, step-taken, SameLengths}
use Rattle.live_theorems.proofs.AfterLaws.{after-lengths, after-refused, after-uses}
use Rattle.live_theorems.proofs.ReplyLaws.{reply_by, reply-by}

-- the same number of two lists stays the same in their first n
take_same : {A : Type 0} (n : ℕ) (l l' : List A) (i : ℕ) (d : A) → get_or l i d ≡ get_or l' i d → get_or (take n l) i d ≡ get_or (take n l') i d
take_same n l l' i d e = ⊎_elim inside outside (order i n)
  where
    inside : i < n → get_or (take n l) i d ≡ get_or (take n l') i d
    inside k = get_or-take n l i d k ∙ e ∙ sym (get_or-take n l' i d k)

    outside : n ≤ i → get_or (take n l) i d ≡ get_or (take n l') i d
    outside k =
        get_or-eq_default (take n l) d (let a = length-take n l in omega arith)
        ∙ sym (get_or-eq_default (take n l') d (let a = length-take n l' in omega arith))

take-pair : (n : ℕ) (l l' : List ℤ) (k : ℕ) → held_pair l k ≡ held_pair l' k → held_pair (take n l) k ≡ held_pair (take n l') k
take-pair n l l' k e =
    pair_same (take n l) (take n l') k (at (2 * k) (ap (λ (m : Offset). m.dx) e)) (at (2 * k + 1) (ap (λ (m : Offset). m.dy) e))
  where
    at : (j : ℕ) → get_or (drop pair_place l) j (pos 0) ≡ get_or (drop pair_place l') j (pos 0) → get_or (take n l) (pair_place + j) (pos 0) ≡ get_or (take n l') (pair_place + j) (pos 0)
    at j q = take_same n l l' (pair_place + j) (pos 0) (sym (get_or-drop pair_place l j (pos 0)) ∙ q ∙ get_or-drop pair_place l' j (pos 0))

take-bracket : (n : ℕ) (l : List ℤ) → pair_place ≤ n → bracket_of (take n l) ≡ bracket_of l
take-bracket n l k = bracket-same (take n l) l (λ i j. get_or-take n l i (pos 0) (omega arith))

-- Memories that show the same agree.
uses-agree : (u : Used) (m m' : Memory) → SameLengths m' m → Uses u m → Uses u m' → Agree m m'
uses-agree u m m' sizes r r' = record {
  numbers_length = sizes.0;
  newest_length = sizes.1;
  bracket = r'.numbered.bracket ∙ sym r.numbered.bracket;
  pairs = λ k l.
      let l' : k < pairs_in u.bracket = subst (λ (B : Bracket). k < pairs_in B) r.numbered.bracket l in
      r'.numbered.pairs k l' ∙ sym (r.numbered.pairs k l');
  newest =
      subst (λ (B : Bracket). 0 < B.frames → SameFrame B.w B.h (frame_of B.w m'.newest) (frame_of B.w m.newest)) (sym r.numbered.bracket)
      (λ l x y i j. r'.shows l x y i j ∙ sym (r.shows l x y i j));
}

-- One call on memories that agree.
module _ (preferred : List Offset) (m m' : Memory) (a : Agree m m') (c : Handed) where
  u : Used
  u = used_of (slices_of m c)

  size1 : length (slices_of m' c).numbers ≡ length (slices_of m c).numbers
  size1 = length-take c.numbers m'.numbers ∙ (let e = a.numbers_length in let l = length-take c.numbers m.numbers in omega arith)

  size2 : length (slices_of m' c).newest ≡ length (slices_of m c).newest
  size2 = length-take c.newest m'.newest ∙ (let e = a.newest_length in let l = length-take c.newest m.newest in omega arith)

  -- slices that hold 36 numbers show the same
  slice-uses : length (slices_of m' c).numbers ≡ held_length → Uses u (slices_of m' c)
  unfolding u frame_of
  slice-uses e =
      let long : held_length ≤ c.numbers = let l = length-take c.numbers m'.numbers in omega arith in
      let front : bracket_of (take c.numbers m.numbers) ≡ bracket_of m.numbers = take-bracket c.numbers m.numbers (omega arith) in
      record {
        numbered = record {
          bracket = take-bracket c.numbers m'.numbers (omega arith) ∙ a.bracket ∙ sym front;
          pairs = λ k l. take-pair c.numbers m'.numbers m.numbers k (a.pairs k (subst (λ (B : Bracket). k < pairs_in B) front l));
        };
        shows =
            subst (λ (B : Bracket). 0 < B.frames → SameFrame B.w B.h (frame_of B.w (take c.newest m'.newest)) (frame_of B.w (take c.newest m.newest))) (sym front)
            (λ l x y i j. take_same c.newest m'.newest m.newest (y * (bracket_of m.numbers).w + x) 0 (a.newest l x y i j));
      }

  number-alike : number_of (slices_of m' c) c.call ≡ number_of (slices_of m c) c.call
  unfolding u
  number-alike =
      number-by u (slices_of m' c) c.call (λ e. (slice-uses e).numbered)
      ∙ ap₂ (λ (i j : ℕ). number_by u i j c.call) size1 size2
      ∙ sym (number-by u (slices_of m c) c.call (λ e. (uses-own (slices_of m c)).numbered))

  reply-alike : (step preferred (slices_of m c) c.call).reply ≡ (step preferred (slices_of m' c) c.call).reply
  unfolding u
  reply-alike =
      reply-by preferred u (slices_of m c) c.call (λ e. (uses-own (slices_of m c)).numbered)
      ∙ sym (ap₂ (λ (i j : ℕ). reply_by u (number_by u i j c.call) c.call) size1 size2)
      ∙ sym (reply-by preferred u (slices_of m' c) c.call (λ e. (slice-uses e).numbered))

  lengths-after : SameLengths (after_call preferred m' c) (after_call preferred m c)
  lengths-after =
      let l = after-lengths preferred m c in
      let l' = after-lengths preferred m' c in
      (l'.0 ∙ a.numbers_length ∙ sym l.0, l'.1 ∙ a.newest_length ∙ sym l.1)

  next_agree : (n : ℕ) → number_of (slices_of m c) c.call ≡ n → Agree (after_call preferred m c) (after_call preferred m' c)
  unfolding u
  next_agree zero e =
      let e' = number-alike ∙ e in
      let sizes = accepted-sizes preferred u (length (slices_of m' c).numbers) (length (slices_of m' c).newest) c.call (sym (number-by u (slices_of m' c) c.call (λ z. (slice-uses z).numbered)) ∙ e') in
      uses-agree (used_after preferred u c.call) (after_call preferred m c) (after_call preferred m' c) lengths-after
      (after-uses preferred u m c (uses-own (slices_of m c)) e) (after-uses preferred u m' c (slice-uses sizes.0) e')
  next_agree (suc n) e = rw (after-refused preferred m c n e, after-refused preferred m' c n (number-alike ∙ e)) a

pub unread : Unread
unfolding replies
unread preferred m m' a [] = refl
unread preferred m m' a (c ∷ cs) =
    ap₂ (λ (r : Reply) (rest : List Reply). r ∷ rest) (reply-alike preferred m m' a c)
    (unread preferred (after_call preferred m c) (after_call preferred m' c) (next_agree preferred m m' a c (number_of (slices_of m c) c.call) refl) cs)

-- A layout is 0 past its pairs.
layout-zeros : (B : Bracket) (d : ℕ → Offset) → ZeroPastPairs (layout B d)
layout-zeros B d i l m = zero-read B d i (subst (λ (C : Bracket). pair_place + 2 * pairs_in C ≤ i) (bracket-read B d) l) m

made-zeros : (preferred : List Offset) (m : Memory) (c : Call) → Changes c → ZeroPastPairs (made preferred m c).numbers
unfolding made started grown shrunk
made-zeros preferred m (Call.Start w h s tolerance percentile) changes = layout-zeros (empty_of w h s tolerance percentile) (λ k. still)
made-zeros preferred m (Call.Add raster grey words) changes =
    let B : Bracket = bracket_of m.numbers in
    layout-zeros (holding B (B.frames + 1)) (extended (held_pair m.numbers) (pairs_in B) (new_pair preferred B m.newest raster))
made-zeros preferred m Call.Drop changes =
    let B : Bracket = bracket_of m.numbers in
    layout-zeros (holding B (B.frames - 1)) (λ k. held_pair m.numbers (k + 1))
made-zeros preferred m (Call.Tell offsets) changes = absurd changes

pub zeros-written : ZerosWritten
zeros-written preferred m c changes e = subst (λ (k : Memory). ZeroPastPairs k.numbers) (sym (step-taken preferred m c e)) (made-zeros preferred m c changes)
