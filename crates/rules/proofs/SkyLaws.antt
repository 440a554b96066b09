-- Where all counts of a level are equal the first candidate of the order is taken; s + 1 such levels add up to 2^(s+1)−1 of its steps.
use Rattle.std.specs.Prelude.{Result, Ok}
use mathlib.Core.Path.{◌≡◌, sym, ap, ap₂, ◌∙◌}
use mathlib.Core.List.{List, [], ◌++◌, map}
use Prim.Native.Nat.{ℕ, zero, suc, ◌+◌, ◌*◌, ◌-◌, ◌/◌, ◌^◌, ◌≤◌, ◌<◌}
use native.Mathlib.Omega.{arith}
use lib.IntN.{ℤ, pos, neg_ℤ, ◌+ℤ◌, ◌*ℤ◌, +ℤ_idl, +ℤ_idr, +ℤ_assoc, zero-*ℤ, *ℤ-zero, pos-*ℤ-negsuc, suc_ℤ-*ℤ}
use lib.ListN.{length, get_or, get_or-append}
use lib.Seq.{get_or-append-add}
use lib.Pow.{pow_pos}
use Rattle.rules.specs.declared.Offset.{Offset}
use Rattle.rules.specs.declared.Setup.{Setup}
use Rattle.rules.specs.Frames.{Frame}
use Rattle.rules.specs.Greys.{grey_frame, halved}
use Rattle.rules.specs.Levels.{still, added, ward_order, arranged, Arrangement, ExclusionRule, rule_of, chosen, candidate_at, level, count_at, pair}
use Rattle.rules.specs.Answers.{answer_for, buffer_after}
use Rattle.rules.specs.Calls.{pair_number, pair_result, PairCall}
use Rattle.rules.specs.BlankSky.{Equal, BlankSky}
use Rattle.rules.proofs.RefusalLaws.{buffer-at}
use Rattle.rules.proofs.LevelLaws.{chosen_is, map_at, arranged-at, arranged-length, ward_places, least_move_places, ward-arrangement, least-move-arrangement, counts-length}

-- ---- n times a step

abbrev pub times_step : ℕ → Offset → Offset
times_step n m = record { dx = pos n *ℤ m.dx; dy = pos n *ℤ m.dy }

times-add : (m n : ℕ) (k : ℤ) → pos m *ℤ k +ℤ pos n *ℤ k ≡ pos (m + n) *ℤ k
times-add m zero k = let e : m ≡ m + 0 = omega arith in ap (λ (z : ℤ). pos m *ℤ k +ℤ z) (zero-*ℤ k) ∙ +ℤ_idr (pos m *ℤ k) ∙ ap (λ (i : ℕ). pos i *ℤ k) e
times-add m (suc n) k =
    let e : suc (m + n) ≡ m + suc n = omega arith in
    ap (λ (z : ℤ). pos m *ℤ k +ℤ z) (suc_ℤ-*ℤ (pos n) k) ∙ sym (+ℤ_assoc (pos m *ℤ k) (pos n *ℤ k) k) ∙ ap (λ (z : ℤ). z +ℤ k) (times-add m n k)
    ∙ sym (suc_ℤ-*ℤ (pos (m + n)) k) ∙ ap (λ (i : ℕ). pos i *ℤ k) e

times-one : (k : ℤ) → k ≡ pos 1 *ℤ k
times-one k = sym (suc_ℤ-*ℤ (pos 0) k ∙ ap (λ (z : ℤ). z +ℤ k) (zero-*ℤ k) ∙ +ℤ_idl k)

-- twice as many, and one more
times-level : (n : ℕ) (k : ℤ) → pos n *ℤ k +ℤ pos n *ℤ k +ℤ k ≡ pos (n + n + 1) *ℤ k
times-level n k = ap₂ (λ (y z : ℤ). y +ℤ z) (times-add n n k) (times-one k) ∙ times-add (n + n) 1 k

-- ---- a level

module _ (places : List ℕ) (fits : Arrangement places) where
  -- the first step of the order
  abbrev pub first_step : Offset
  first_step = get_or ward_order (get_or places 0 0) still

  level-first : (count : Offset → ℕ) (centre : Offset) → ((j : ℕ) → j < 9 → count (candidate_at centre j) ≡ count (candidate_at centre 0))
      → chosen count (map (added centre) (arranged places)) ≡ added centre first_step
  level-first count centre equal =
      chosen_is count (map (added centre) (arranged places)) 0 (record {
        inside = let a = size in omega arith;
        least = λ k l. let e = same 0 (omega arith) in let f = same k (let a = size in omega arith) in omega arith;
        first = λ k l. absurd (omega arith);
      })
      ∙ arranged-at centre places 0 (let a = fits.nine in omega arith) (fits.inside 0 (omega arith))
      ∙ map_at (added centre) ward_order still still (get_or places 0 0) (fits.inside 0 (omega arith))
    where
      size : length (map (added centre) (arranged places)) ≡ 9
      size = arranged-length centre places ∙ fits.nine

      same : (k : ℕ) → k < 9 → count (get_or (map (added centre) (arranged places)) k still) ≡ count (candidate_at centre 0)
      same k l =
          ap count (arranged-at centre places k (let a = fits.nine in omega arith) (fits.inside k l))
          ∙ equal (get_or places k 0) (fits.inside k l)

  -- the nine counts after the coarser ones, by place
  nine-after : (count : Offset → ℕ) (centre : Offset) (coarser : List ℕ) (n : ℕ) → length coarser ≡ n → (j : ℕ) → j < 9
      → get_or (coarser ++ map count (map (added centre) ward_order)) (n + j) 0 ≡ count (candidate_at centre j)
  nine-after count centre coarser n size j l =
      let nine : List ℕ = map count (map (added centre) ward_order) in
      ap (λ (i : ℕ). get_or (coarser ++ nine) (i + j) 0) (sym size) ∙ get_or-append-add coarser nine j 0
      ∙ map_at count (map (added centre) ward_order) still 0 j l

  nine-equal : (count : Offset → ℕ) (centre : Offset) (coarser : List ℕ) (s : ℕ) → length coarser ≡ 9 * s
      → Equal (s + 1) (coarser ++ map count (map (added centre) ward_order))
      → (j : ℕ) → j < 9 → count (candidate_at centre j) ≡ count (candidate_at centre 0)
  nine-equal count centre coarser s size equal j l =
      let nine : List ℕ = map count (map (added centre) ward_order) in
      let e : 9 * s ≡ 9 * s + 0 = omega arith in
      sym (nine-after count centre coarser (9 * s) size j l) ∙ equal s j (omega arith) l
      ∙ ap (λ (i : ℕ). get_or (coarser ++ nine) i 0) e ∙ nine-after count centre coarser (9 * s) size 0 (omega arith)

  -- ---- all levels

  coarser-equal : (coarser nine : List ℕ) (n : ℕ) → length coarser ≡ 9 * n → Equal (suc n) (coarser ++ nine) → Equal n coarser
  coarser-equal coarser nine n size equal k j l m =
      sym (get_or-append coarser nine 0 (9 * k + j) (omega arith)) ∙ equal k j (omega arith) m ∙ get_or-append coarser nine 0 (9 * k) (omega arith)

  pub equal-counts : (rule : ExclusionRule) (percentile s w h : ℕ) (a b : Frame) → Equal (s + 1) (pair (arranged places) rule percentile s w h a b).counts
      → (pair (arranged places) rule percentile s w h a b).offset ≡ times_step (2 ^ suc s - 1) first_step
  unfolding pair level
  equal-counts rule percentile zero w h a b equal =
      level-first (count_at rule percentile w h a b) still (nine-equal (count_at rule percentile w h a b) still [] 0 (omega arith) equal)
      ∙ (λ i. record {
        dx = (+ℤ_idl first_step.dx ∙ times-one first_step.dx) i;
        dy = (+ℤ_idl first_step.dy ∙ times-one first_step.dy) i;
      })
  equal-counts rule percentile (suc s) w h a b equal =
      let coarse = pair (arranged places) rule percentile s (w / 2) (h / 2) (halved a) (halved b) in
      let count : Offset → ℕ = count_at rule percentile w h a b in
      let centre : Offset = added coarse.offset coarse.offset in
      let more : suc s + 1 ≡ suc (s + 1) = omega arith in
      let size : length coarse.counts ≡ 9 * (s + 1) = counts-length (arranged places) rule percentile s (w / 2) (h / 2) (halved a) (halved b) in
      let below : coarse.offset ≡ times_step (2 ^ suc s - 1) first_step =
      equal-counts rule percentile s (w / 2) (h / 2) (halved a) (halved b) (coarser-equal coarse.counts (map count (map (added centre) ward_order)) (s + 1) size (rw more at equal)) in
      let n : ℕ = 2 ^ suc s - 1 in
      let e : n + n + 1 ≡ 2 ^ suc (suc s) - 1 = omega (arith, pow_pos s) in
      level-first count centre (nine-equal count centre coarse.counts (suc s) (omega arith) equal)
      ∙ ap (λ (m : Offset). added (added m m) first_step) below
      ∙ (λ i. record { dx = times-level n first_step.dx i; dy = times-level n first_step.dy i })
      ∙ ap (λ (k : ℕ). times_step k first_step) e

-- ---- the two orders

pub least_stays : (n : ℕ) → times_step n (first_step least_move_places least-move-arrangement) ≡ still
least_stays n = λ i. record { dx = *ℤ-zero (pos n) i; dy = *ℤ-zero (pos n) i }

pub ward-corner : (n : ℕ) → times_step n (first_step ward_places ward-arrangement) ≡ record { dx = neg_ℤ (pos n); dy = neg_ℤ (pos n) }
ward-corner n =
    let e : n * 1 ≡ n = omega arith in
    let f = pos-*ℤ-negsuc n 0 ∙ ap (λ (k : ℕ). neg_ℤ (pos k)) e in
    λ i. record { dx = f i; dy = f i }

-- ---- the two calls

-- counts that stand at the beginning of an accepted call's buffer
pub written-equal : (n number : ℕ) (out before after : List ℕ) → number ≡ 0 → 9 * n ≤ length out → after ≡ buffer_after number out before → Equal n after → Equal n out
written-equal n number out before after z room e equal k j l m =
    let same = rw e at (equal k j l m) in
    sym (buffer-at number out before 0 (9 * k + j) z (omega arith)) ∙ same ∙ buffer-at number out before 0 (9 * k) z (omega arith)

pair-blank : (places : List ℕ) (fits : Arrangement places) (S : Setup) (first second counts counts' compared compared' grey grey' words words' : List ℕ) (r : Result Offset ℕ)
    → pair_number S first second counts compared grey words ≡ 0 → PairCall (arranged places) S first second counts counts' compared compared' grey grey' words words' r → Equal (S.s + 1) counts'
    → r ≡ Ok (times_step (2 ^ suc S.s - 1) (first_step places fits))
unfolding pair_result
pair-blank places fits S first second counts counts' compared compared' grey grey' words words' r z call equal =
    let a = grey_frame S.w first in
    let b = grey_frame S.w second in
    let result = pair_result (arranged places) S first second in
    let size : length result.counts ≡ 9 * (S.s + 1) = counts-length (arranged places) (rule_of S.exclusion) S.percentile S.s S.w S.h a b in
    call.answered ∙ ap (λ (n : ℕ). answer_for n result.offset) z
    ∙ ap Ok (equal-counts places fits (rule_of S.exclusion) S.percentile S.s S.w S.h a b
    (written-equal (S.s + 1) (pair_number S first second counts compared grey words) result.counts counts counts' z (omega arith) call.counts_are equal))

pub blank-sky : BlankSky
blank-sky = record {
  least_move = λ S first second counts counts' compared compared' grey grey' words words' r z call equal.
      pair-blank least_move_places least-move-arrangement S first second counts counts' compared compared' grey grey' words words' r z call equal
      ∙ ap Ok (least_stays (2 ^ suc S.s - 1));
  ward = λ S first second counts counts' compared compared' grey grey' words words' r z call equal.
      pair-blank ward_places ward-arrangement S first second counts counts' compared compared' grey grey' words words' r z call equal ∙ ap Ok (ward-corner (2 ^ suc S.s - 1));
}
