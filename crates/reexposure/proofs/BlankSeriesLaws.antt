-- The offsets of a series whose pairs all stay, and of one whose pairs all go to the corner; and when they do, by the counts.
use Rattle.std.specs.Prelude.{Result, ⊤}
use mathlib.Core.Path.{◌≡◌, refl, sym, ap, ap₂, subst, ◌∙◌}
use mathlib.Core.Bool.{Bool, true, false, cond}
use mathlib.Core.List.{List}
use Prim.Native.Nat.{ℕ, zero, suc, ◌+◌, ◌*◌, ◌-◌, ◌^◌, ◌≤◌, ◌<◌, min, max}
use native.Mathlib.Nat.{zero-mul, suc-mul, mul_comm, mul_assoc, mul-le-mul_right}
use native.Mathlib.Omega.{arith}
use lib.Dec.{leb}
use lib.IntN.{ℤ, pos, neg_ℤ, nat_abs, ◌+ℤ◌, neg_ℤ-+ℤ}
use lib.ListN.{length, get_or, take}
use borrow.Author.Tests.{leb-true, leb-false}
use Rattle.rules.specs.declared.Offset.{Offset}
use Rattle.rules.specs.Planes.{distance}
use Rattle.rules.specs.Levels.{still, added, arranged, Arrangement, rule_of, Aligned, pair}
use Rattle.rules.specs.Series.{Settings, grey_of, pair_of, sum_from, opposite, frame_offset, joined, answer_of, answer_by, series_answer}
use Rattle.rules.specs.Calls.{series_number, SeriesCall}
use Rattle.rules.specs.BlankSky.{Equal}
use Rattle.rules.proofs.OffsetLaws.{abs_neg, offset_at}
use Rattle.rules.proofs.LevelLaws.{ward_places, least_move_places, ward-arrangement, least-move-arrangement, counts-length}
use Rattle.rules.proofs.RefusalLaws.{buffer-part}
use Rattle.rules.proofs.AlignmentLaws.{series-ok}
use Rattle.rules.proofs.SeriesLaws.{offset-list-ext, joined_at, offsets-size, counts-size}
use Rattle.rules.proofs.SkyLaws.{times_step, first_step, equal-counts, least_stays, ward-corner, written-equal}
use Rattle.reexposure.specs.BlankSeries.{Unmoved, Reached, levels_of, BlankSeries}

-- −n on both axes
abbrev back : ℕ → Offset
back n = record { dx = neg_ℤ (pos n); dy = neg_ℤ (pos n) }

neg-add : (m n : ℕ) → neg_ℤ (pos m) +ℤ neg_ℤ (pos n) ≡ neg_ℤ (pos (m + n))
neg-add m n = sym (neg_ℤ-+ℤ (pos m) (pos n))

back-add : (m n : ℕ) → added (back m) (back n) ≡ back (m + n)
back-add m n = λ i. record { dx = neg-add m n i; dy = neg-add m n i }

-- pairs that all go back by b
sum_back : (b : ℕ) (d : ℕ → Offset) (a n : ℕ) → ((k : ℕ) → k < a + n → d k ≡ back b) → sum_from d a n ≡ back (n * b)
unfolding sum_from
sum_back b d a zero e = ap back (sym (zero-mul b))
sum_back b d a (suc n) e =
    ap₂ added (sum_back b d a n (λ k l. e k (omega arith))) (e (a + n) (omega arith)) ∙ back-add (n * b) b ∙ ap back (sym (suc-mul n b))

abs-back : (n : ℕ) → nat_abs (neg_ℤ (pos n)) ≡ n
abs-back n = abs_neg (pos n)

-- both numbers of an offset have the size n
abbrev Sized : ℕ → Offset → Type 0
Sized n m = (nat_abs m.dx ≡ n) × (nat_abs m.dy ≡ n)

frame_back : (b : ℕ) (d : ℕ → Offset) (n r k : ℕ) → r ≤ n → k ≤ n → ((j : ℕ) → j < n → d j ≡ back b) → Sized (distance k r * b) (frame_offset d r k)
unfolding frame_offset distance
frame_back b d n r k l m e = split (leb r k) refl
  where
    split : (t : Bool) → leb r k ≡ t → Sized ((max k r - min k r) * b) (cond t (sum_from d r (k - r)) (opposite (sum_from d k (r - k))))
    split true t =
        let p = leb-true r k t in
        let f : k - r ≡ max k r - min k r = omega arith in
        rw (sum_back b d r (k - r) (λ j i. e j (omega arith)), ← f) (abs-back ((k - r) * b), abs-back ((k - r) * b))
    split false t =
        let p = leb-false r k t in
        let f : r - k ≡ max k r - min k r = omega arith in
        let g = abs_neg (neg_ℤ (pos ((r - k) * b))) ∙ abs-back ((r - k) * b) in
        rw (sum_back b d k (r - k) (λ j i. e j (omega arith)), ← f) (g, g)

-- pairs that all stay
sum-still : (d : ℕ → Offset) (a n : ℕ) → ((k : ℕ) → k < a + n → d k ≡ still) → sum_from d a n ≡ still
unfolding sum_from
sum-still d a zero e = refl
sum-still d a (suc n) e = ap₂ added (sum-still d a n (λ k l. e k (omega arith))) (e (a + n) (omega arith))

frame-still : (d : ℕ → Offset) (n r k : ℕ) → r ≤ n → k ≤ n → ((j : ℕ) → j < n → d j ≡ still) → frame_offset d r k ≡ still
unfolding frame_offset
frame-still d n r k l m e = split (leb r k) refl
  where
    split : (t : Bool) → leb r k ≡ t → cond t (sum_from d r (k - r)) (opposite (sum_from d k (r - k))) ≡ still
    split true t = let p = leb-true r k t in sum-still d r (k - r) (λ j i. e j (omega arith))
    split false t = let p = leb-false r k t in ap opposite (sum-still d k (r - k) (λ j i. e j (omega arith)))

-- ---- a series by its pairs

module _ (preferred : List Offset) (S : Settings) (F : List ℕ) where
  -- pair j's answer in an order of the nine
  abbrev pub pair_in : ℕ → Aligned
  pair_in = pair_of (λ p. pair preferred (rule_of S.exclusion) p S.halvings S.w S.h) S.percentiles (grey_of S F)

  abbrev offset_of : ℕ → Offset
  offset_of = frame_offset (λ j. (pair_in j).offset) S.reference

  pub series-unmoved : S.reference < S.frames → ((j : ℕ) → j < S.frames - 1 → (pair_in j).offset ≡ still) → Unmoved S (series_answer preferred S F).offsets
  unfolding series_answer answer_by answer_of
  series-unmoved l e =
      offset-list-ext S.frames offset_of (λ k. still)
      (λ k m. frame-still (λ j. (pair_in j).offset) (S.frames - 1) S.reference k (omega arith) (omega arith) e)

  pub series-reached : S.reference < S.frames → ((j : ℕ) → j < S.frames - 1 → (pair_in j).offset ≡ back (2 ^ suc S.halvings - 1))
      → Reached S (series_answer preferred S F).offsets
  unfolding series_answer answer_by answer_of
  series-reached l e = record {
    dx = λ k m. ap nat_abs (offset_at S.frames offset_of k m).0 ∙ (sized k m).0;
    dy = λ k m. ap nat_abs (offset_at S.frames offset_of k m).1 ∙ (sized k m).1;
  }
    where
      sized : (k : ℕ) → k < S.frames → Sized (distance k S.reference * (2 ^ suc S.halvings - 1)) (offset_of k)
      sized k m = frame_back (2 ^ suc S.halvings - 1) (λ j. (pair_in j).offset) (S.frames - 1) S.reference k (omega arith) (omega arith) e

-- ---- its counts

-- the counts of pair j are a part of the series' counts
part-equal : (n size : ℕ) (counts : ℕ → List ℕ) → ((j : ℕ) → length (counts j) ≡ 9 * size) → Equal (n * size) (joined n counts)
    → (j : ℕ) → j < n → Equal size (counts j)
part-equal n size counts sizes equal j l k i m o =
    let fits : j * size + k < n * size = let a = mul-le-mul_right {m = suc j} {n = n} size l in let b = suc-mul j size in omega arith in
    sym (joined_at (9 * size) counts sizes n j (9 * k + i) l (omega arith))
    ∙ ap (λ (p : ℕ). get_or (joined n counts) p 0) (place i)
    ∙ equal (j * size + k) i fits o
    ∙ ap (λ (p : ℕ). get_or (joined n counts) p 0) (sym (place-0))
    ∙ joined_at (9 * size) counts sizes n j (9 * k) l (omega arith)
  where
    nines : j * (9 * size) ≡ 9 * (j * size)
    nines = sym (mul_assoc j 9 size) ∙ ap (λ (p : ℕ). p * size) (mul_comm j 9) ∙ mul_assoc 9 j size

    place : (i : ℕ) → j * (9 * size) + (9 * k + i) ≡ 9 * (j * size + k) + i
    place i = let a = nines in omega arith

    place-0 : j * (9 * size) + 9 * k ≡ 9 * (j * size + k)
    place-0 = let a = nines in omega arith

module _ (places : List ℕ) (fits : Arrangement places) (S : Settings) (F : List ℕ) where
  pair-first : Equal (levels_of S) (series_answer (arranged places) S F).counts → (j : ℕ) → j < S.frames - 1
      → (pair_in (arranged places) S F j).offset ≡ times_step (2 ^ suc S.halvings - 1) (first_step places fits)
  unfolding series_answer answer_by answer_of pair_of
  pair-first equal j l =
      equal-counts places fits (rule_of S.exclusion) (get_or S.percentiles j 0) S.halvings S.w S.h (grey_of S F j) (grey_of S F (j + 1))
      (part-equal (S.frames - 1) (S.halvings + 1) (λ k. (pair_in (arranged places) S F k).counts)
      (λ k. counts-length (arranged places) (rule_of S.exclusion) (get_or S.percentiles k 0) S.halvings S.w S.h (grey_of S F k) (grey_of S F (k + 1))) equal j l)

-- ---- an accepted call

module _ (preferred : List Offset) (S : Settings) (F : List ℕ) (offsets offsets' : List ℤ) (counts counts' compared compared' grey grey' words words' : List ℕ) (r : Result ⊤ ℕ)
    (z : series_number S F offsets counts compared grey words ≡ 0) (call : SeriesCall preferred S F offsets offsets' counts counts' compared compared' grey grey' words words' r) where
  reference-ok : S.reference < S.frames
  reference-ok =
      (series-ok S.w S.h S.halvings S.exclusion S.frames S.reference S.percentiles
      (length F) (length offsets) (length counts) (length compared) (length grey) (length words) z).reference

  answer-equal : Equal (levels_of S) counts' → Equal (levels_of S) (series_answer preferred S F).counts
  answer-equal equal =
      written-equal (levels_of S) (series_number S F offsets counts compared grey words) (series_answer preferred S F).counts counts counts' z
      (let a = counts-size preferred S F in let b = mul_assoc 9 (S.halvings + 1) (S.frames - 1) in let c = mul_comm (S.halvings + 1) (S.frames - 1) in
      let d = ap (λ (p : ℕ). 9 * p) c in omega arith)
      call.counts_are equal

  written_is : take (2 * S.frames) offsets' ≡ (series_answer preferred S F).offsets
  written_is = buffer-part (series_number S F offsets counts compared grey words) (2 * S.frames) (series_answer preferred S F).offsets offsets offsets' z (offsets-size preferred S F) call.offsets_are

pub blank-series : BlankSeries
blank-series = record {
  least_move = λ S F offsets offsets' counts counts' compared compared' grey grey' words words' r z call equal.
      let same = answer-equal (arranged least_move_places) S F offsets offsets' counts counts' compared compared' grey grey' words words' r z call equal in
      subst (Unmoved S) (sym (written_is (arranged least_move_places) S F offsets offsets' counts counts' compared compared' grey grey' words words' r z call))
      (series-unmoved (arranged least_move_places) S F (reference-ok (arranged least_move_places) S F offsets offsets' counts counts' compared compared' grey grey' words words' r z call)
      (λ j m. pair-first least_move_places least-move-arrangement S F same j m ∙ least_stays (2 ^ suc S.halvings - 1)));
  ward = λ S F offsets offsets' counts counts' compared compared' grey grey' words words' r z call equal.
      let same = answer-equal (arranged ward_places) S F offsets offsets' counts counts' compared compared' grey grey' words words' r z call equal in
      subst (Reached S) (sym (written_is (arranged ward_places) S F offsets offsets' counts counts' compared compared' grey grey' words words' r z call))
      (series-reached (arranged ward_places) S F (reference-ok (arranged ward_places) S F offsets offsets' counts counts' compared compared' grey grey' words words' r z call)
      (λ j m. pair-first ward_places ward-arrangement S F same j m ∙ ward-corner (2 ^ suc S.halvings - 1)));
}
