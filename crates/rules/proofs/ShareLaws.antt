-- A count is at most its compared number, and that at most the pixels of the overlap: at one move, and in the lists that the pair and series calls write.
use Rattle.std.specs.Prelude.{Ok}
use mathlib.Core.Path.{◌≡◌, ap, ap₂, ◌∙◌}
use mathlib.Core.Bool.{Bool, true, false, ◌&&◌}
use mathlib.Core.List.{List, [], ◌∷◌, ◌++◌, map}
use Prim.Native.Nat.{ℕ, zero, suc, ◌+◌, ◌*◌, ◌-◌, ◌/◌, ◌≤◌, ◌<◌, min}
use native.Mathlib.Nat.{le_refl, mul_comm, mul-le-mul}
use native.Mathlib.Omega.{arith}
use lib.Dec.{eqb, ltb}
use lib.IntN.{ℤ, pos, negsuc, nat_abs, ◌-ℤ◌, sub_ℕ}
use lib.ListN.{length, get_or}
use borrow.Author.Tests.{lt-ltb, le-ltb}
use Rattle.rules.specs.declared.Offset.{Offset}
use Rattle.rules.specs.declared.Tally.{Tally}
use Rattle.rules.specs.Sums.{gate, one_if, sum, row_sum, sum_pixels}
use Rattle.rules.specs.Frames.{Frame}
use Rattle.rules.specs.Greys.{grey_frame, halved}
use Rattle.rules.specs.Planes.{within}
use Rattle.rules.specs.Differences.{Planes, differ, keep, with_partner, difference, compared, overlap}
use Rattle.rules.specs.Levels.{still, added, ward_order, ExclusionRule, rule_of, level, count_at, compared_at, pair}
use Rattle.rules.specs.Series.{Settings, grey_of, pair_of, joined, answer_of, answer_by, series_answer}
use Rattle.rules.specs.Answers.{answer_for, buffer_after}
use Rattle.rules.specs.Calls.{planes_of, tally_of, pair_number, pair_result, series_number}
use Rattle.rules.specs.Refusals.{difference_refusal}
use Rattle.rules.specs.Shares.{overlap_at, overlaps, series_overlaps, Shared, Shares}
use Rattle.rules.proofs.SumLaws.{gate-le, sum-ext, sum-split, sum-all, pixels-mono}
use Rattle.rules.proofs.RefusalLaws.{buffer-at}
use Rattle.rules.proofs.LevelLaws.{counts-length, compared-length}
use Rattle.rules.proofs.SeriesLaws.{counts-size, compared-size}

-- ---- at one move

gate-mono : (t : Bool) (m n : ℕ) → m ≤ n → gate t m ≤ gate t n
gate-mono true m n l = l
gate-mono false m n l = le_refl 0

within-mono : (n : ℕ) (z : ℤ) (f g : ℕ → ℕ) → ((k : ℕ) → f k ≤ g k) → within n z f ≤ within n z g
unfolding within
within-mono n (pos k) f g e = gate-mono (ltb k n) (f k) (g k) (e k)
within-mono n (negsuc k) f g e = le_refl 0

partner-mono : (w h : ℕ) (dx dy : ℤ) (f g : ℕ → ℕ → ℕ → ℕ → ℕ) → ((x y u v : ℕ) → f x y u v ≤ g x y u v)
    → sum_pixels w h (with_partner w h dx dy f) ≤ sum_pixels w h (with_partner w h dx dy g)
unfolding with_partner
partner-mono w h dx dy f g e =
    pixels-mono w h (with_partner w h dx dy f) (with_partner w h dx dy g)
    (λ x y k l.
    within-mono w (pos x -ℤ dx) (λ u. within h (pos y -ℤ dy) (λ v. f x y u v)) (λ u. within h (pos y -ℤ dy) (λ v. g x y u v))
    (λ u. within-mono h (pos y -ℤ dy) (λ v. f x y u v) (λ v. g x y u v) (λ v. e x y u v)))

-- a third test leaves fewer
tests-le : (a b c : Bool) → one_if (a && (b && c)) ≤ one_if (a && b)
tests-le true true c = gate-le c 1
tests-le true false c = le_refl 0
tests-le false b c = le_refl 0

module _ (w h : ℕ) (dx dy : ℤ) (a b : Planes) where
  under-compared : difference w h dx dy a b ≤ compared w h dx dy a b
  unfolding difference differ compared keep
  under-compared =
      partner-mono w h dx dy (differ a b) (keep a b) (λ x y u v. tests-le (eqb (a.exclusion x y) 1) (eqb (b.exclusion u v) 1) _)

  under-overlap : compared w h dx dy a b ≤ overlap w h dx dy
  unfolding compared keep overlap
  under-overlap = partner-mono w h dx dy (keep a b) (λ x y u v. 1) (λ x y u v. gate-le (eqb (a.exclusion x y) 1 && eqb (b.exclusion u v) 1) 1)

-- ---- the area of the overlap

-- c at the first a of n places, and d at the others
sum-two : (n a c d : ℕ) (f : ℕ → ℕ) → a ≤ n → ((i : ℕ) → i < a → f i ≡ c) → ((i : ℕ) → a ≤ i → i < n → f i ≡ d) → sum n f ≡ a * c + (n - a) * d
sum-two n a c d f l first rest =
    let e : n ≡ a + (n - a) = omega arith in
    ap (λ (k : ℕ). sum k f) e ∙ sum-split a (n - a) f
    ∙ ap₂ (λ (p q : ℕ). p + q) (sum-all a c f first) (sum-all (n - a) d (λ i. f (a + i)) (λ i m. rest (a + i) (omega arith) (omega arith)))

-- n places in a row have n − m partners m to the right of them in the same row, and as many to the left
sum-right : (n m c : ℕ) → sum n (λ x. within n (pos (x + m)) (λ k. c)) ≡ (n - m) * c
unfolding within
sum-right n m c =
    sum-two n (n - m) c 0 (λ x. within n (pos (x + m)) (λ k. c)) (omega arith)
    (λ x l. rw (lt-ltb (x + m) n (omega arith))) (λ x l k. rw (le-ltb (x + m) n (omega arith)))
    ∙ omega arith

sum_left : (n m c : ℕ) → sum n (λ x. within n (sub_ℕ x (suc m)) (λ k. c)) ≡ (n - suc m) * c
unfolding within
sum_left n m c =
    let e : n - min n (suc m) ≡ n - suc m = omega arith in
    sum-two n (min n (suc m)) 0 c (λ x. within n (sub_ℕ x (suc m)) (λ k. c)) (omega arith)
    (λ x l. rw (lt-ltb x (suc m) (omega arith))) (λ x l k. rw (le-ltb x (suc m) (omega arith), lt-ltb (x - suc m) n (omega arith)))
    ∙ rw e (omega arith)

sum-within : (n : ℕ) (d : ℤ) (c : ℕ) → sum n (λ x. within n (pos x -ℤ d) (λ k. c)) ≡ (n - nat_abs d) * c
sum-within n (pos zero) c = sum-right n 0 c
sum-within n (pos (suc m)) c = sum_left n m c
sum-within n (negsuc m) c = sum-right n (suc m) c

gate-times : (t : Bool) (c : ℕ) → c * gate t 1 ≡ gate t c
gate-times true c = omega arith
gate-times false c = omega arith

within-times : (n : ℕ) (z : ℤ) (c : ℕ) → c * within n z (λ k. 1) ≡ within n z (λ k. c)
unfolding within
within-times n (pos k) c = gate-times (ltb k n) c
within-times n (negsuc k) c = omega arith

overlap-area : (w h : ℕ) (dx dy : ℤ) → overlap w h dx dy ≡ (w - nat_abs dx) * (h - nat_abs dy)
unfolding overlap with_partner sum_pixels
overlap-area w h dx dy =
    sum-ext h (row_sum w (with_partner w h dx dy (λ x y u v. 1))) (λ y. within h (pos y -ℤ dy) (λ k. w - nat_abs dx))
    (λ y l. sum-within w dx (within h (pos y -ℤ dy) (λ k. 1)) ∙ within-times h (pos y -ℤ dy) (w - nat_abs dx))
    ∙ sum-within h dy (w - nat_abs dx) ∙ mul_comm (h - nat_abs dy) (w - nat_abs dx)

-- so a count is at most the frame's pixels
pub difference-le : (w h : ℕ) (dx dy : ℤ) (a b : Planes) → difference w h dx dy a b ≤ w * h
difference-le w h dx dy a b =
    let p = under-compared w h dx dy a b in
    let q = under-overlap w h dx dy a b in
    let r = overlap-area w h dx dy in
    let k : w - nat_abs dx ≤ w = omega arith in
    let l : h - nat_abs dy ≤ h = omega arith in
    let s = mul-le-mul k l in
    omega arith

-- ---- the difference call

tallied-is : (n : ℕ) (t t' : Tally) → answer_for n t ≡ Ok t' → t' ≡ t
tallied-is zero t t' e = cc
tallied-is (suc n) t t' e = absurd (let z : ◌≡◌ {A = ℕ} 0 1 = cc in omega arith)

-- ---- lists of numbers

-- three lists of one length: at each place the first number is at most the second, and that at most the third
data Ranked : List ℕ → List ℕ → List ℕ → Type 0 where
  none : Ranked [] [] []
  next : {a b c : ℕ} {k l m : List ℕ} → a ≤ b → b ≤ c → Ranked k l m → Ranked (a ∷ k) (b ∷ l) (c ∷ m)

ranked-at : {a b c : List ℕ} → Ranked a b c → (k : ℕ) → (get_or a k 0 ≤ get_or b k 0) × (get_or b k 0 ≤ get_or c k 0)
ranked-at none k = (le_refl 0, le_refl 0)
ranked-at (next l m r) zero = (l, m)
ranked-at (next l m r) (suc k) = ranked-at r k

ranked-append : {a b c a' b' c' : List ℕ} → Ranked a b c → Ranked a' b' c' → Ranked (a ++ a') (b ++ b') (c ++ c')
ranked-append none s = s
ranked-append (next l m r) s = next l m (ranked-append r s)

ranked-map : (f g h : Offset → ℕ) (ms : List Offset) → ((m : Offset) → f m ≤ g m) → ((m : Offset) → g m ≤ h m) → Ranked (map f ms) (map g ms) (map h ms)
ranked-map f g h [] d e = none
ranked-map f g h (m ∷ ms) d e = next (d m) (e m) (ranked-map f g h ms d e)

ranked-joined : (n : ℕ) (f g h : ℕ → List ℕ) → ((k : ℕ) → Ranked (f k) (g k) (h k)) → Ranked (joined n f) (joined n g) (joined n h)
unfolding joined
ranked-joined zero f g h r = none
ranked-joined (suc n) f g h r = ranked-append (ranked-joined n f g h r) (r n)

-- ---- the pair and series calls

module _ (order : List Offset) (rule : ExclusionRule) (percentile : ℕ) where
  level-ranked : (w h : ℕ) (a b : Frame) (ms : List Offset)
      → Ranked (map (count_at rule percentile w h a b) ms) (map (compared_at rule percentile w h a b) ms) (map (overlap_at w h) ms)
  unfolding count_at compared_at
  level-ranked w h a b ms =
      ranked-map (count_at rule percentile w h a b) (compared_at rule percentile w h a b) (overlap_at w h) ms
      (λ m. under-compared w h m.dx m.dy _ _) (λ m. under-overlap w h m.dx m.dy _ _)

  pair-ranked : (s w h : ℕ) (a b : Frame) → let answer = pair order rule percentile s w h a b in
      Ranked answer.counts answer.compared (overlaps order rule percentile s w h a b)
  unfolding pair level overlaps
  pair-ranked zero w h a b = level-ranked w h a b (map (added still) ward_order)
  pair-ranked (suc s) w h a b =
      let centre : Offset = (pair order rule percentile s (w / 2) (h / 2) (halved a) (halved b)).offset in
      ranked-append (pair-ranked s (w / 2) (h / 2) (halved a) (halved b)) (level-ranked w h a b (map (added (added centre centre)) ward_order))

series-ranked : (order : List Offset) (S : Settings) (F : List ℕ) → let answer = series_answer order S F in
    Ranked answer.counts answer.compared (series_overlaps order S F)
unfolding series_answer answer_by answer_of pair_of
series-ranked order S F =
    ranked-joined (S.frames - 1) _ _ _
    (λ k. pair-ranked order (rule_of S.exclusion) (get_or S.percentiles k 0) S.halvings S.w S.h (grey_of S F k) (grey_of S F (k + 1)))

-- the first two of such lists, once an accepted call has written them
written-shared : (n number : ℕ) (counts compared overlaps before before' after after' : List ℕ) → number ≡ 0 → length counts ≡ n → length compared ≡ n
    → after ≡ buffer_after number counts before → after' ≡ buffer_after number compared before' → Ranked counts compared overlaps → Shared n after after' overlaps
written-shared n number counts compared overlaps before before' after after' z size size' e e' r = record {
  under_compared = λ k l. rw (e, e', at counts before k (omega arith), at compared before' k (omega arith)) (ranked-at r k).0;
  under_overlap = λ k l. rw (e', at compared before' k (omega arith)) (ranked-at r k).1;
}
  where
    at : (out lent : List ℕ) (k : ℕ) → k < length out → get_or (buffer_after number out lent) k 0 ≡ get_or out k 0
    at out lent k l = buffer-at number out lent 0 k z l

pub shares : Shares
unfolding pair_result
shares = record {
  under_compared = under-compared;
  under_overlap = under-overlap;
  area = overlap-area;
  differences = λ w h dx dy threshold1 exclusion1 threshold2 exclusion2 t e.
      let a = planes_of w h threshold1 exclusion1 in
      let b = planes_of w h threshold2 exclusion2 in
      let number = difference_refusal w h (length threshold1) (length exclusion1) (length threshold2) (length exclusion2) in
      rw (tallied-is number (tally_of w h dx dy a b) t e) (under-compared w h dx dy a b, under-overlap w h dx dy a b);
  pairs = λ order S first second counts counts' compared compared' grey grey' words words' r z call.
      let rule = rule_of S.exclusion in
      let a = grey_frame S.w first in
      let b = grey_frame S.w second in
      written-shared (9 * (S.s + 1)) (pair_number S first second counts compared grey words) _ _ _ counts compared counts' compared' z
      (counts-length order rule S.percentile S.s S.w S.h a b) (compared-length order rule S.percentile S.s S.w S.h a b)
      call.counts_are call.compared_are (pair-ranked order rule S.percentile S.s S.w S.h a b);
  series = λ order S F offsets offsets' counts counts' compared compared' grey grey' words words' r z call.
      written-shared (9 * (S.halvings + 1) * (S.frames - 1)) (series_number S F offsets counts compared grey words) _ _ _ counts compared counts' compared' z
      (counts-size order S F) (compared-size order S F) call.counts_are call.compared_are (series-ranked order S F);
}
