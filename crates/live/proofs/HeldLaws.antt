-- Laws of the 36 numbers: what a layout reads as, and that numbers which read so are that layout.
use mathlib.Core.Path.{◌≡◌, refl, sym, ap, ◌∙◌}
use mathlib.Core.Logic.{⊎_elim}
use mathlib.Core.List.{List, ◌∷◌, ◌++◌}
use Prim.Native.Nat.{ℕ, zero, suc, ◌+◌, ◌*◌, ◌-◌, ◌/◌, ◌%◌, ◌≤◌, ◌<◌}
use native.Mathlib.Omega.{arith}
use lib.IntN.{ℤ, pos}
use lib.ListN.{length, get_or, drop, replicate, length-append, length-replicate, get_or-replicate, get_or-append}
use lib.Seq.{get_or-append-add, get_or-drop, ext_get_or}
use Rattle.rules.specs.declared.Offset.{Offset}
use Rattle.rules.specs.Limits.{max_frames}
use Rattle.rules.specs.Series.{offset_list}
use Rattle.rules.proofs.SumLaws.{order}
use Rattle.rules.proofs.OffsetLaws.{length-offsets, offset_at}
use Rattle.rules.proofs.SeriesLaws.{offset-list-ext}
use Rattle.live.specs.declared.Bracket.{Bracket}
use Rattle.live.specs.Held.{held_length, pair_place, pair_numbers, natural, bracket_of, held_pair, pairs_in, layout}

-- 36 numbers that read as a bracket with these pairs
pub record Reads (B : Bracket) (d : ℕ → Offset) (l : List ℤ) : Type 0 where
  pub size : length l ≡ held_length
  pub w : get_or l 0 (pos 0) ≡ pos B.w
  pub h : get_or l 1 (pos 0) ≡ pos B.h
  pub s : get_or l 2 (pos 0) ≡ pos B.s
  pub tolerance : get_or l 3 (pos 0) ≡ pos B.tolerance
  pub percentile : get_or l 4 (pos 0) ≡ pos B.percentile
  pub frames : get_or l 5 (pos 0) ≡ pos B.frames
  pub pairs : (k : ℕ) → k < pairs_in B → held_pair l k ≡ d k
  pub zeros : (i : ℕ) → pair_place + 2 * pairs_in B ≤ i → i < held_length → get_or l i (pos 0) ≡ pos 0

module _ (B : Bracket) (d : ℕ → Offset) where
  -- what follows the six numbers
  pair_list : List ℤ
  pair_list = offset_list (pairs_in B) d

  rest : List ℤ
  rest = replicate (pair_numbers - 2 * pairs_in B) (pos 0)

  size_of : length pair_list ≡ 2 * pairs_in B
  unfolding pair_list
  size_of = length-offsets (pairs_in B) d

  pub layout-length : B.frames ≤ max_frames → length (layout B d) ≡ held_length
  unfolding layout pair_list rest
  layout-length few =
      let a = length-append pair_list rest in
      let b = size_of in
      let c = length-replicate (pair_numbers - 2 * pairs_in B) (pos 0) in
      omega arith

  pub bracket-read : bracket_of (layout B d) ≡ B
  unfolding bracket_of layout natural
  bracket-read = refl

  pub pair_read : (k : ℕ) → k < pairs_in B → held_pair (layout B d) k ≡ d k
  unfolding layout pair_list rest
  pair_read k l = λ i. record { dx = (front (2 * k) (omega arith) ∙ (offset_at (pairs_in B) d k l).0) i; dy = (front (2 * k + 1) (omega arith) ∙ (offset_at (pairs_in B) d k l).1) i }
    where
      front : (i : ℕ) → i < 2 * pairs_in B → get_or (pair_list ++ rest) i (pos 0) ≡ get_or pair_list i (pos 0)
      front i m = get_or-append pair_list rest (pos 0) i (let b = size_of in omega arith)

  pub zero-read : (i : ℕ) → pair_place + 2 * pairs_in B ≤ i → i < held_length → get_or (layout B d) i (pos 0) ≡ pos 0
  unfolding layout pair_list rest
  zero-read i l m =
      let n : ℕ = pair_place + length pair_list in
      let e : i ≡ pair_place + (length pair_list + (i - n)) = let b = size_of in omega arith in
      ap (λ (j : ℕ). get_or (layout B d) j (pos 0)) e
      ∙ sym (get_or-drop pair_place (layout B d) (length pair_list + (i - n)) (pos 0))
      ∙ get_or-append-add pair_list rest (i - n) (pos 0)
      ∙ get_or-replicate (pair_numbers - 2 * pairs_in B) (i - n) (pos 0) (pos 0) (let b = size_of in omega arith)

  pub layout-reads : B.frames ≤ max_frames → Reads B d (layout B d)
  unfolding layout
  layout-reads few = record {
    size = layout-length few;
    w = refl;
    h = refl;
    s = refl;
    tolerance = refl;
    percentile = refl;
    frames = refl;
    pairs = pair_read;
    zeros = zero-read;
  }

-- A number after the six is one of a pair.
pair-place : (l l' : List ℤ) (n : ℕ) → ((k : ℕ) → k < n → held_pair l k ≡ held_pair l' k) → (j : ℕ) → j < 2 * n → get_or l (pair_place + j) (pos 0) ≡ get_or l' (pair_place + j) (pos 0)
pair-place l l' n same j m =
    sym (get_or-drop pair_place l j (pos 0))
    ∙ ⊎_elim even odd (order (j % 2) 1)
    ∙ get_or-drop pair_place l' j (pos 0)
  where
    pair : held_pair l (j / 2) ≡ held_pair l' (j / 2)
    pair = same (j / 2) (omega arith)

    even : j % 2 < 1 → get_or (drop pair_place l) j (pos 0) ≡ get_or (drop pair_place l') j (pos 0)
    even z = let e : 2 * (j / 2) ≡ j = omega arith in rw e at (ap (λ (m : Offset). m.dx) pair)

    odd : 1 ≤ j % 2 → get_or (drop pair_place l) j (pos 0) ≡ get_or (drop pair_place l') j (pos 0)
    odd z = let e : 2 * (j / 2) + 1 ≡ j = omega arith in rw e at (ap (λ (m : Offset). m.dy) pair)

pub layout_is : (B : Bracket) (d : ℕ → Offset) (l : List ℤ) → B.frames ≤ max_frames → Reads B d l → l ≡ layout B d
layout_is B d l few r = ext_get_or (pos 0) l (layout B d) (r.size ∙ sym (layout-length B d few)) (λ i k. at i (let a = r.size in omega arith))
  where
    q : Reads B d (layout B d)
    q = layout-reads B d few

    six : (i : ℕ) → i < pair_place → get_or l i (pos 0) ≡ get_or (layout B d) i (pos 0)
    six zero k = r.w ∙ sym q.w
    six (suc zero) k = r.h ∙ sym q.h
    six (suc (suc zero)) k = r.s ∙ sym q.s
    six (suc (suc (suc zero))) k = r.tolerance ∙ sym q.tolerance
    six (suc (suc (suc (suc zero)))) k = r.percentile ∙ sym q.percentile
    six (suc (suc (suc (suc (suc zero))))) k = r.frames ∙ sym q.frames
    six (suc (suc (suc (suc (suc (suc i)))))) k = absurd (omega arith)

    behind : (i : ℕ) → i < held_length → pair_place ≤ i → get_or l i (pos 0) ≡ get_or (layout B d) i (pos 0)
    behind i k m = ⊎_elim used unused (order i (pair_place + 2 * pairs_in B))
      where
        used : i < pair_place + 2 * pairs_in B → get_or l i (pos 0) ≡ get_or (layout B d) i (pos 0)
        used p =
            let e : pair_place + (i - pair_place) ≡ i = omega arith in
            rw e at (pair-place l (layout B d) (pairs_in B) (λ j u. r.pairs j u ∙ sym (q.pairs j u)) (i - pair_place) (omega arith))

        unused : pair_place + 2 * pairs_in B ≤ i → get_or l i (pos 0) ≡ get_or (layout B d) i (pos 0)
        unused p = r.zeros i p k ∙ sym (q.zeros i p k)

    at : (i : ℕ) → i < held_length → get_or l i (pos 0) ≡ get_or (layout B d) i (pos 0)
    at i k = ⊎_elim (six i) (behind i k) (order i pair_place)

pub layout-ext : (B : Bracket) (d e : ℕ → Offset) → ((k : ℕ) → k < pairs_in B → d k ≡ e k) → layout B d ≡ layout B e
unfolding layout
layout-ext B d e same =
    ap (λ (l : List ℤ). pos B.w ∷ pos B.h ∷ pos B.s ∷ pos B.tolerance ∷ pos B.percentile ∷ pos B.frames ∷ (l ++ replicate (pair_numbers - 2 * pairs_in B) (pos 0)))
    (offset-list-ext (pairs_in B) d e same)

-- The same six numbers are the same bracket.
pub bracket-same : (l l' : List ℤ) → ((i : ℕ) → i < pair_place → get_or l i (pos 0) ≡ get_or l' i (pos 0)) → bracket_of l ≡ bracket_of l'
unfolding bracket_of
bracket-same l l' same = λ i. record {
  w = natural (same 0 (omega arith) i);
  h = natural (same 1 (omega arith) i);
  s = natural (same 2 (omega arith) i);
  tolerance = natural (same 3 (omega arith) i);
  percentile = natural (same 4 (omega arith) i);
  frames = natural (same 5 (omega arith) i);
}

-- and the same numbers of a pair the same pair
pub pair_same : (l l' : List ℤ) (k : ℕ) → get_or l (pair_place + 2 * k) (pos 0) ≡ get_or l' (pair_place + 2 * k) (pos 0)
    → get_or l (pair_place + (2 * k + 1)) (pos 0) ≡ get_or l' (pair_place + (2 * k + 1)) (pos 0) → held_pair l k ≡ held_pair l' k
pair_same l l' k a b = λ i. record {
  dx = (get_or-drop pair_place l (2 * k) (pos 0) ∙ a ∙ sym (get_or-drop pair_place l' (2 * k) (pos 0))) i;
  dy = (get_or-drop pair_place l (2 * k + 1) (pos 0) ∙ b ∙ sym (get_or-drop pair_place l' (2 * k + 1) (pos 0))) i;
}
