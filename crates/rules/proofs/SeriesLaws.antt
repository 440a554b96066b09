-- A frame's offset from its neighbour's; and what a series' answer reads of its pairs.
use mathlib.Core.Path.{◌≡◌, refl, sym, ap, ap₂, ◌∙◌}
use mathlib.Core.Logic.{⊎_elim}
use mathlib.Core.List.{List, [], ◌∷◌, ◌++◌}
use Prim.Native.Nat.{ℕ, zero, suc, ◌+◌, ◌*◌, ◌-◌, ◌≤◌, ◌<◌, min, max}
use native.Mathlib.Nat.{add-zero, zero-mul, suc-mul, mul_comm, mul-le-mul_right}
use native.Mathlib.Omega.{arith}
use lib.IntN.{ℤ, pos, neg_ℤ, ◌+ℤ◌, +ℤ_idl, +ℤ_idr, +ℤ_assoc, +ℤ_comm, +ℤ_invl, neg_ℤ-+ℤ}
use lib.ListN.{length, get_or, length-append, get_or-append}
use lib.Seq.{get_or-append-add}
use borrow.Author.Tests.{le-leb, lt-leb}
use Rattle.rules.specs.declared.Offset.{Offset}
use Rattle.rules.specs.Levels.{still, added, rule_of, Aligned, pair}
use Rattle.rules.specs.Series.{Settings, grey_of, pair_of, sum_from, opposite, frame_offset, offset_list, joined, answer_of, answer_by, series_answer}
use Rattle.rules.proofs.OffsetLaws.{length-offsets}
use Rattle.rules.proofs.LevelLaws.{counts-length, compared-length}
use Rattle.rules.proofs.SumLaws.{order}

-- a sum of offsets begun at its front
pub sum-from-front : (d : ℕ → Offset) (a n : ℕ) → sum_from d a (suc n) ≡ added (d a) (sum_from d (a + 1) n)
unfolding sum_from
sum-from-front d a zero = λ i. record { dx = ends (λ (m : Offset). m.dx) i; dy = ends (λ (m : Offset). m.dy) i }
  where
    ends : (axis : Offset → ℤ) → pos 0 +ℤ axis (d (a + 0)) ≡ axis (d a) +ℤ pos 0
    ends axis = rw add-zero (+ℤ_idl (axis (d a)) ∙ sym (+ℤ_idr (axis (d a))))
sum-from-front d a (suc n) =
    ap (λ (m : Offset). added m (d (a + suc n))) (sum-from-front d a n)
    ∙ (λ i. record { dx = +ℤ_assoc (d a).dx rest.dx (d (a + suc n)).dx i; dy = +ℤ_assoc (d a).dy rest.dy (d (a + suc n)).dy i })
    ∙ ap (λ (k : ℕ). added (d a) (added rest (d k))) (omega arith)
  where
    rest : Offset
    rest = sum_from d (a + 1) n

frame-above : (d : ℕ → Offset) (r k : ℕ) → r ≤ k → frame_offset d r k ≡ sum_from d r (k - r)
unfolding frame_offset
frame-above d r k l = rw (le-leb r k l)

frame_below : (d : ℕ → Offset) (r k : ℕ) → k ≤ r → frame_offset d r k ≡ opposite (sum_from d k (r - k))
unfolding frame_offset sum_from
frame_below d r k l = ⊎_elim (λ (m : k < r). rw (lt-leb r k m)) at (order k r)
  where
    at : r ≤ k → frame_offset d r k ≡ opposite (sum_from d k (r - k))
    at m =
        let e : k ≡ r = omega arith in
        let z : r - r ≡ 0 = omega arith in
        rw (e, le-leb r r (omega arith), z)

pub frame_at : (d : ℕ → Offset) (r : ℕ) → frame_offset d r r ≡ still
unfolding sum_from
frame_at d r = let z : r - r ≡ 0 = omega arith in frame-above d r r (omega arith) ∙ rw z

-- frame 0's offset from r is frame r's from 0, the other way
pub frame-turned : (d : ℕ → Offset) (r : ℕ) → frame_offset d r 0 ≡ opposite (frame_offset d 0 r)
frame-turned d r = frame_below d r 0 (omega arith) ∙ ap opposite (sym (frame-above d 0 r (omega arith)))

-- the next frame's offset, on either side of the reference
pub frame_step : (d : ℕ → Offset) (r k : ℕ) → frame_offset d r (k + 1) ≡ added (frame_offset d r k) (d k)
unfolding sum_from
frame_step d r k = ⊎_elim below above (order k r)
  where
    above : r ≤ k → frame_offset d r (k + 1) ≡ added (frame_offset d r k) (d k)
    above l =
        let s : k + 1 - r ≡ suc (k - r) = omega arith in
        let e : r + (k - r) ≡ k = omega arith in
        frame-above d r (k + 1) (omega arith)
        ∙ ap (sum_from d r) s
        ∙ ap (λ (j : ℕ). added (sum_from d r (k - r)) (d j)) e
        ∙ ap (λ (m : Offset). added m (d k)) (sym (frame-above d r k l))

    rest : Offset
    rest = sum_from d (k + 1) (r - (k + 1))

    turned : (a b : ℤ) → neg_ℤ (a +ℤ b) +ℤ a ≡ neg_ℤ b
    turned a b =
        ap (λ (z : ℤ). z +ℤ a) (neg_ℤ-+ℤ a b ∙ +ℤ_comm (neg_ℤ a) (neg_ℤ b))
        ∙ +ℤ_assoc (neg_ℤ b) (neg_ℤ a) a
        ∙ ap (λ (z : ℤ). neg_ℤ b +ℤ z) (+ℤ_invl a)
        ∙ +ℤ_idr (neg_ℤ b)

    below : k < r → frame_offset d r (k + 1) ≡ added (frame_offset d r k) (d k)
    below l =
        let s : r - k ≡ suc (r - (k + 1)) = omega arith in
        frame_below d r (k + 1) (omega arith)
        ∙ sym
        (ap (λ (m : Offset). added m (d k)) (frame_below d r k (omega arith) ∙ ap (λ (n : ℕ). opposite (sum_from d k n)) s ∙ ap opposite (sum-from-front d k (r - (k + 1))))
        ∙ (λ i. record { dx = turned (d k).dx rest.dx i; dy = turned (d k).dy rest.dy i }))

sum-from-ext : (d e : ℕ → Offset) (a n : ℕ) → ((j : ℕ) → a ≤ j → j < a + n → d j ≡ e j) → sum_from d a n ≡ sum_from e a n
unfolding sum_from
sum-from-ext d e a zero same = refl
sum-from-ext d e a (suc n) same =
    let s = sum-from-ext d e a n (λ j l m. same j l (omega arith)) in
    let t = same (a + n) (omega arith) (omega arith) in
    λ i. added (s i) (t i)

-- a frame's offset reads the pairs between it and the reference alone
pub frame-ext : (d e : ℕ → Offset) (r k : ℕ) → ((j : ℕ) → min r k ≤ j → j < max r k → d j ≡ e j) → frame_offset d r k ≡ frame_offset e r k
frame-ext d e r k same = ⊎_elim under over (order k r)
  where
    under : k < r → frame_offset d r k ≡ frame_offset e r k
    under l =
        frame_below d r k (omega arith)
        ∙ ap opposite (sum-from-ext d e k (r - k) (λ j a b. same j (omega arith) (omega arith)))
        ∙ sym (frame_below e r k (omega arith))

    over : r ≤ k → frame_offset d r k ≡ frame_offset e r k
    over l =
        frame-above d r k l
        ∙ sum-from-ext d e r (k - r) (λ j a b. same j (omega arith) (omega arith))
        ∙ sym (frame-above e r k l)

-- A series' answer sees only the answers of its pairs.
pub offset-list-ext : (n : ℕ) (f g : ℕ → Offset) → ((k : ℕ) → k < n → f k ≡ g k) → offset_list n f ≡ offset_list n g
unfolding offset_list
offset-list-ext zero f g same = refl
offset-list-ext (suc n) f g same =
    ap₂ (λ (l : List ℤ) (m : Offset). l ++ (m.dx ∷ m.dy ∷ [])) (offset-list-ext n f g (λ k l. same k (omega arith))) (same n (omega arith))

pub frame-list-ext : (n r : ℕ) (d e : ℕ → Offset) → r < n → ((j : ℕ) → j < n - 1 → d j ≡ e j) → offset_list n (frame_offset d r) ≡ offset_list n (frame_offset e r)
frame-list-ext n r d e l same = offset-list-ext n (frame_offset d r) (frame_offset e r) (λ k m. frame-ext d e r k (λ j a b. same j (omega arith)))

pub joined-ext : (n : ℕ) (f g : ℕ → List ℕ) → ((k : ℕ) → k < n → f k ≡ g k) → joined n f ≡ joined n g
unfolding joined
joined-ext zero f g same = refl
joined-ext (suc n) f g same = ap₂ (λ (l m : List ℕ). l ++ m) (joined-ext n f g (λ k l. same k (omega arith))) (same n (omega arith))

-- Lists of one length, one after another.
module _ (each : ℕ) (lists : ℕ → List ℕ) (sizes : (j : ℕ) → length (lists j) ≡ each) where
  pub joined_length : (n : ℕ) → length (joined n lists) ≡ n * each
  unfolding joined
  joined_length zero = sym (zero-mul each)
  joined_length (suc n) =
      length-append (joined n lists) (lists n)
      ∙ (let a = joined_length n in let b = sizes n in let c = suc-mul n each in omega arith)

  pub joined_at : (n k i : ℕ) → k < n → i < each → get_or (joined n lists) (k * each + i) 0 ≡ get_or (lists k) i 0
  unfolding joined
  joined_at zero k i l m = absurd (omega arith)
  joined_at (suc n) k i l m = ⊎_elim (λ (o : k < n). old o (joined_at n k i o m)) new (order k n)
    where
      old : k < n → get_or (joined n lists) (k * each + i) 0 ≡ get_or (lists k) i 0
          → get_or (joined n lists ++ lists n) (k * each + i) 0 ≡ get_or (lists k) i 0
      old o e =
          get_or-append (joined n lists) (lists n) 0 (k * each + i)
          (let a = joined_length n in let b = mul-le-mul_right {m = suc k} {n = n} each o in let c = suc-mul k each in omega arith)
          ∙ e

      new : n ≤ k → get_or (joined n lists ++ lists n) (k * each + i) 0 ≡ get_or (lists k) i 0
      new o =
          let d : k ≡ n = omega arith in
          let e : k * each + i ≡ length (joined n lists) + i = let a = joined_length n in let b = ap (λ (j : ℕ). j * each) d in omega arith in
          ap (λ (j : ℕ). get_or (joined n lists ++ lists n) j 0) e
          ∙ get_or-append-add (joined n lists) (lists n) i 0
          ∙ ap (λ (j : ℕ). get_or (lists j) i 0) (sym d)

-- The sizes of a series' answer.
module _ (preferred : List Offset) (S : Settings) where
  pairs : List ℕ → ℕ → Aligned
  pairs F = pair_of (λ p. pair preferred (rule_of S.exclusion) p S.halvings S.w S.h) S.percentiles (grey_of S F)

  -- An answer has 2·N offsets and 9·(s+1)·(N−1) counts, and as many compared numbers.
  pub offsets-size : (F : List ℕ) → length (series_answer preferred S F).offsets ≡ 2 * S.frames
  unfolding series_answer answer_by answer_of pairs
  offsets-size F = length-offsets S.frames (frame_offset (λ k. (pairs F k).offset) S.reference)

  numbers-size : (lists : ℕ → List ℕ) → ((j : ℕ) → length (lists j) ≡ 9 * (S.halvings + 1)) → length (joined (S.frames - 1) lists) ≡ 9 * (S.halvings + 1) * (S.frames - 1)
  numbers-size lists sizes = joined_length (9 * (S.halvings + 1)) lists sizes (S.frames - 1) ∙ mul_comm (S.frames - 1) (9 * (S.halvings + 1))

  pub counts-size : (F : List ℕ) → length (series_answer preferred S F).counts ≡ 9 * (S.halvings + 1) * (S.frames - 1)
  unfolding series_answer answer_by answer_of pair_of pairs
  counts-size F =
      numbers-size (λ k. (pairs F k).counts)
      (λ j. counts-length preferred (rule_of S.exclusion) (get_or S.percentiles j 0) S.halvings S.w S.h (grey_of S F j) (grey_of S F (j + 1)))

  pub compared-size : (F : List ℕ) → length (series_answer preferred S F).compared ≡ 9 * (S.halvings + 1) * (S.frames - 1)
  unfolding series_answer answer_by answer_of pair_of pairs
  compared-size F =
      numbers-size (λ k. (pairs F k).compared)
      (λ j. compared-length preferred (rule_of S.exclusion) (get_or S.percentiles j 0) S.halvings S.w S.h (grey_of S F j) (grey_of S F (j + 1)))
