-- Laws of a level's answer: the candidate chosen, by its place among the nine.
use mathlib.Core.Path.{◌≡◌, refl, sym, ap, ◌∙◌}
use mathlib.Core.Bool.{Bool, true, false, cond}
use mathlib.Core.List.{List, [], ◌∷◌, ◌++◌, map}
use Prim.Native.Nat.{ℕ, zero, suc, ◌+◌, ◌*◌, ◌/◌, ◌%◌, ◌≤◌, ◌<◌}
use native.Mathlib.Omega.{arith}
use lib.Dec.{eqb, ltb}
use lib.ListN.{length, get_or, length-append}
use borrow.Author.Tests.{ltb-true, ltb-false, eqb-true}
use Rattle.rules.specs.declared.Offset.{Offset}
use Rattle.rules.specs.Frames.{Frame}
use Rattle.rules.specs.Greys.{halved}
use Rattle.rules.proofs.CaseLaws.{all, all-at}
use Rattle.rules.specs.Levels.{still, added, ward_order, arranged, times, Arrangement, ExclusionRule, first_least, chosen, candidate_at, step_of, level, count_at, compared_at, pair}

-- place r of a list has the least count, and every place before it a greater one
pub record FirstLeast (count : Offset → ℕ) (ms : List Offset) (r : ℕ) : Type 0 where
  pub inside : r < length ms
  pub least : (k : ℕ) → k < length ms → count (get_or ms r still) ≤ count (get_or ms k still)
  pub first : (k : ℕ) → k < r → count (get_or ms r still) < count (get_or ms k still)

first-least-is : (count : Offset → ℕ) (best : Offset) (ms : List Offset) (r : ℕ) → FirstLeast count (best ∷ ms) r
    → first_least count best ms ≡ get_or (best ∷ ms) r still
unfolding first_least
first-least-is count best [] zero p = refl
first-least-is count best [] (suc r) p = absurd (let l = p.inside in omega arith)
first-least-is count best (m ∷ ms) r p = split (ltb (count m) (count best)) refl r p (first-least-is count m ms) (first-least-is count best ms)
  where
    Is : Offset → ℕ → Type 0
    Is b r = FirstLeast count (b ∷ ms) r → first_least count b ms ≡ get_or (b ∷ ms) r still

    split : (t : Bool) → ltb (count m) (count best) ≡ t → (r : ℕ) → FirstLeast count (best ∷ m ∷ ms) r
        → ((r : ℕ) → Is m r) → ((r : ℕ) → Is best r)
        → first_least count (cond t m best) ms ≡ get_or (best ∷ m ∷ ms) r still
    split true t zero p there here = absurd (let l = ltb-true (count m) (count best) t in let e = p.least 1 (omega arith) in omega arith)
    split true t (suc r) p there here =
        there r (record {
          inside = let l = p.inside in omega arith;
          least = λ k l. p.least (suc k) (omega arith);
          first = λ k l. p.first (suc k) (omega arith);
        })
    split false t zero p there here =
        here zero (record { inside = omega arith; least = λ k l. skip k l; first = λ k l. absurd (omega arith) })
      where
        skip : (k : ℕ) → k < length (best ∷ ms) → count best ≤ count (get_or (best ∷ ms) k still)
        skip zero l = omega arith
        skip (suc k) l = p.least (suc (suc k)) (omega arith)
    split false t (suc zero) p there here =
        absurd (let l = ltb-false (count m) (count best) t in let e = p.first 0 (omega arith) in omega arith)
    split false t (suc (suc r)) p there here =
        here (suc r) (record { inside = let l = p.inside in omega arith; least = least; first = first })
      where
        least : (k : ℕ) → k < length (best ∷ ms) → count (get_or ms r still) ≤ count (get_or (best ∷ ms) k still)
        least zero l = p.least 0 (omega arith)
        least (suc k) l = p.least (suc (suc k)) (omega arith)

        first : (k : ℕ) → k < suc r → count (get_or ms r still) < count (get_or (best ∷ ms) k still)
        first zero l = p.first 0 (omega arith)
        first (suc k) l = p.first (suc (suc k)) (omega arith)

pub chosen_is : (count : Offset → ℕ) (ms : List Offset) (r : ℕ) → FirstLeast count ms r → chosen count ms ≡ get_or ms r still
unfolding chosen
chosen_is count [] r p = absurd (let l = p.inside in omega arith)
chosen_is count (m ∷ ms) r p = first-least-is count m ms r p

pub candidate-is : (centre : Offset) (k : ℕ) → k < 9 → candidate_at centre k ≡ added centre (record { dx = step_of (k / 3); dy = step_of (k % 3) })
candidate-is centre zero l = refl
candidate-is centre (suc zero) l = refl
candidate-is centre (suc (suc zero)) l = refl
candidate-is centre (suc (suc (suc zero))) l = refl
candidate-is centre (suc (suc (suc (suc zero)))) l = refl
candidate-is centre (suc (suc (suc (suc (suc zero))))) l = refl
candidate-is centre (suc (suc (suc (suc (suc (suc zero)))))) l = refl
candidate-is centre (suc (suc (suc (suc (suc (suc (suc zero))))))) l = refl
candidate-is centre (suc (suc (suc (suc (suc (suc (suc (suc zero)))))))) l = refl
candidate-is centre (suc (suc (suc (suc (suc (suc (suc (suc (suc k))))))))) l = absurd (omega arith)

-- A list is an arrangement of the nine by two tests that are computed.
pub arrangement : (places : List ℕ) → length places ≡ 9 → all 9 (λ j. ltb (get_or places j 0) 9) ≡ true → all 9 (λ p. eqb (times p places) 1) ≡ true → Arrangement places
arrangement places nine below once = record {
  nine = nine;
  inside = λ j l. ltb-true (get_or places j 0) 9 (all-at 9 (λ k. ltb (get_or places k 0) 9) below j l);
  once = λ p l. eqb-true (times p places) 1 (all-at 9 (λ k. eqb (times k places) 1) once p l);
}

-- the places of the two orders: `arranged` makes `ward_order` and `least_move_order` of them
abbrev pub ward_places : List ℕ
ward_places = 0 ∷ 1 ∷ 2 ∷ 3 ∷ 4 ∷ 5 ∷ 6 ∷ 7 ∷ 8 ∷ []

abbrev pub least_move_places : List ℕ
least_move_places = 4 ∷ 1 ∷ 7 ∷ 3 ∷ 5 ∷ 0 ∷ 2 ∷ 6 ∷ 8 ∷ []

pub ward-arrangement : Arrangement ward_places
unfolding all times
ward-arrangement = arrangement _ refl refl refl

pub least-move-arrangement : Arrangement least_move_places
unfolding all times
least-move-arrangement = arrangement _ refl refl refl

-- a list made element by element, at a place
pub map_at : {A B : Type 0} (f : A → B) (l : List A) (a : A) (b : B) (k : ℕ) → k < length l → get_or (map f l) k b ≡ f (get_or l k a)
map_at f [] a b k l = absurd (omega arith)
map_at f (x ∷ xs) a b zero l = refl
map_at f (x ∷ xs) a b (suc k) l = map_at f xs a b k (omega arith)

-- candidate j of an order around a centre
pub arranged-at : (centre : Offset) (places : List ℕ) (j : ℕ) → j < length places → get_or places j 0 < 9
    → get_or (map (added centre) (arranged places)) j still ≡ candidate_at centre (get_or places j 0)
arranged-at centre [] j l m = absurd (omega arith)
arranged-at centre (p ∷ ps) zero l m = sym (map_at (added centre) ward_order still still p m)
arranged-at centre (p ∷ ps) (suc j) l m = arranged-at centre ps j (omega arith) m

pub arranged-length : (centre : Offset) (places : List ℕ) → length (map (added centre) (arranged places)) ≡ length places
arranged-length centre [] = refl
arranged-length centre (p ∷ ps) = ap suc (arranged-length centre ps)

-- nine numbers after others
nine-more : (l : List ℕ) (number : Offset → ℕ) (centre : Offset) (s : ℕ) → length l ≡ 9 * (s + 1) → length (l ++ map number (map (added centre) ward_order)) ≡ 9 * (suc s + 1)
nine-more l number centre s e = length-append l (map number (map (added centre) ward_order)) ∙ omega arith

module _ (order : List Offset) (rule : ExclusionRule) (percentile : ℕ) where
  -- an answer of s halvings has 9·(s + 1) counts and as many compared numbers
  lengths : (s w h : ℕ) (a b : Frame) → let answer = pair order rule percentile s w h a b in
      (length answer.counts ≡ 9 * (s + 1)) × (length answer.compared ≡ 9 * (s + 1))
  unfolding pair level
  lengths zero w h a b = (refl, refl)
  lengths (suc s) w h a b =
      let coarse = pair order rule percentile s (w / 2) (h / 2) (halved a) (halved b) in
      let centre : Offset = added coarse.offset coarse.offset in
      let below = lengths s (w / 2) (h / 2) (halved a) (halved b) in
      (nine-more coarse.counts (count_at rule percentile w h a b) centre s below.0, nine-more coarse.compared (compared_at rule percentile w h a b) centre s below.1)

  pub counts-length : (s w h : ℕ) (a b : Frame) → length (pair order rule percentile s w h a b).counts ≡ 9 * (s + 1)
  counts-length s w h a b = (lengths s w h a b).0

  pub compared-length : (s w h : ℕ) (a b : Frame) → length (pair order rule percentile s w h a b).compared ≡ 9 * (s + 1)
  compared-length s w h a b = (lengths s w h a b).1
