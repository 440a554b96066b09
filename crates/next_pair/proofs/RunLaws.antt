-- Laws of the runs: the places of the greys, the offsets of the pairs, the places of the numbers.
use mathlib.Core.Path.{◌≡◌, refl, sym, ap, subst, ◌∙◌}
use mathlib.Core.Logic.{◌⊎◌, inl, inr, ⊎_elim}
use mathlib.Core.List.{List}
use Prim.Native.Nat.{ℕ, suc, ◌+◌, ◌*◌, ◌-◌, ◌%◌, ◌^◌, ◌≤◌, ◌<◌}
use native.Mathlib.Nat.{zero-add, zero-mul, suc-mul, mul_comm, mul-le-mul_right}
use native.Mathlib.Numerals.{add-one}
use native.Mathlib.Omega.{arith}
use lib.IntN.{ℤ}
use lib.ListN.{length, get_or, drop}
use lib.Seq.{get_or-drop}
use lib.Pow.{pow_mono}
use borrow.Author.Tests.{eq-eqb, ne_eqb}
use Rattle.rules.specs.declared.Offset.{Offset}
use Rattle.rules.specs.declared.Setup.{Setup}
use Rattle.rules.specs.Limits.{max_offset}
use Rattle.rules.specs.Frames.{frame_of, written_over, SameFrame}
use Rattle.rules.specs.Greys.{grey_frame}
use Rattle.rules.specs.Levels.{arranged, rule_of, Aligned}
use Rattle.rules.specs.Refusals.{grey_needed}
use Rattle.rules.specs.Series.{offset_list, joined}
use Rattle.rules.specs.Buffers.{RowAt}
use Rattle.rules.proofs.SumLaws.{order}
use Rattle.rules.proofs.FrameLaws.{row-none, pixel-fits, row-join}
use Rattle.rules.proofs.PairLaws.{pair-ext}
use Rattle.rules.proofs.OffsetLaws.{near-pair, near-arranged, near-more}
use Rattle.rules.proofs.AlignmentLaws.{level-pixels-at}
use Rattle.rules.proofs.LevelLaws.{counts-length, compared-length}
use Rattle.rules.proofs.SeriesLaws.{joined_length, joined_at}
use Rattle.grey.specs.GreyPlaces.{grey_at}
use Rattle.align.specs.Aligns.{Frames, Aligns, aligned_in}
use Rattle.align.proofs.WrittenLaws.{converted, row_written}
use Rattle.offsets.specs.PairOffsets.{with_offset, SmallPairs}
use Rattle.offsets.proofs.PairOffsetLaws.{put_next, written-pair}
use Rattle.next_pair.specs.PairRuns.{place_of, frame_at, Stands, pair_at, setup_at, pairs_of, Room, PairsOk, Ran, Run, AllRan}

-- The two places.
pub place-even : (k area : ℕ) → k % 2 ≡ 0 → place_of k area ≡ 0
unfolding place_of
place-even k area e = rw (eq-eqb (k % 2) 0 e)

pub place-odd : (k area : ℕ) → (k % 2 ≡ 0 → ⊥) → place_of k area ≡ area
unfolding place_of
place-odd k area e = rw (ne_eqb (k % 2) 0 e)

by-parity : (P : Type 0) (k : ℕ) → (k % 2 ≡ 0 → (k + 1) % 2 ≡ 1 → P) → (k % 2 ≡ 1 → (k + 1) % 2 ≡ 0 → P) → P
by-parity P k even odd = ⊎_elim (λ (l : k % 2 < 1). even (omega arith) (omega arith)) (λ (l : 1 ≤ k % 2). odd (omega arith) (omega arith)) (order (k % 2) 1)

pub place-fits : (k area : ℕ) → place_of k area + area ≤ 2 * area
place-fits k area =
    by-parity (place_of k area + area ≤ 2 * area) k
    (λ e o. let p = place-even k area e in omega arith)
    (λ o e. let p = place-odd k area (λ z. omega arith) in omega arith)

pub place-apart : (k area : ℕ) → (place_of k area + area ≤ place_of (k + 1) area) ⊎ (place_of (k + 1) area + area ≤ place_of k area)
place-apart k area =
    by-parity ((place_of k area + area ≤ place_of (k + 1) area) ⊎ (place_of (k + 1) area + area ≤ place_of k area)) k
    (λ e o. let p = place-even k area e in let q = place-odd (k + 1) area (λ z. omega arith) in inl (omega arith))
    (λ o e. let p = place-odd k area (λ z. omega arith) in let q = place-even (k + 1) area e in inr (omega arith))

-- A frame stays as its places stay.
pub frame-kept : (from w h : ℕ) (before after : List ℕ) → ((m : ℕ) → from ≤ m → m < from + w * h → get_or after m 0 ≡ get_or before m 0)
    → SameFrame w h (frame_of w (drop from after)) (frame_of w (drop from before))
unfolding frame_of
frame-kept from w h before after kept x y k l =
    get_or-drop from after (y * w + x) 0
    ∙ kept (from + (y * w + x)) (omega arith) (let p = pixel-fits w h x y k l in omega arith)
    ∙ sym (get_or-drop from before (y * w + x) 0)

pub row_apart : (from to n m : ℕ) (f : ℕ → ℕ) (before after : List ℕ) → (from + n ≤ to) ⊎ (to + m ≤ from) → RowAt to f before m after
    → (i : ℕ) → from ≤ i → i < from + n → get_or after i 0 ≡ get_or before i 0
row_apart from to n m f before after apart r i a b = ⊎_elim (λ (l : from + n ≤ to). r.under i (omega arith)) (λ (l : to + m ≤ from). r.over i (omega arith)) apart

-- A pair's answer has as many counts and compared numbers as its levels have candidates.
counts-sizes : (preferred : List Offset) (S : Setup) (percentiles rasters : List ℕ) (j : ℕ) → length (pairs_of preferred S percentiles rasters j).counts ≡ 9 * (S.s + 1)
counts-sizes preferred S percentiles rasters j =
    counts-length preferred (rule_of S.exclusion) (get_or percentiles j 0) S.s S.w S.h (frame_at S rasters j) (frame_at S rasters (j + 1))

compared-sizes : (preferred : List Offset) (S : Setup) (percentiles rasters : List ℕ) (j : ℕ) → length (pairs_of preferred S percentiles rasters j).compared ≡ 9 * (S.s + 1)
compared-sizes preferred S percentiles rasters j =
    compared-length preferred (rule_of S.exclusion) (get_or percentiles j 0) S.s S.w S.h (frame_at S rasters j) (frame_at S rasters (j + 1))

-- the places of pair k among those of all pairs
pair-places : (each n k room : ℕ) → k + 1 < n → each * (n - 1) ≤ room → k * each + each ≤ room
pair-places each n k room l r =
    let a = mul-le-mul_right {m = suc k} {n = n - 1} each (omega arith) in
    let b = suc-mul k each in
    let c = mul_comm each (n - 1) in
    omega arith

-- What an accepted series has for pair k.
pub room_at : (S : Setup) (n : ℕ) (ps : List ℕ) (rasters pairs counts compared grey words k : ℕ)
    → PairsOk S n ps rasters pairs counts compared grey words → k + 1 < n → Room (setup_at S ps k) k rasters pairs counts compared grey words
room_at S n ps rasters pairs counts compared grey words k o l =
    record {
      shape = o.shape;
      percentiles = o.percentile k (omega arith);
      frames = let f = o.frames in omega arith;
      raster =
          let a = mul-le-mul_right {m = suc (k + 1)} {n = n} (3 * (S.w * S.h)) l in
          let b = suc-mul (k + 1) (3 * (S.w * S.h)) in
          let e = o.exact in
          omega arith;
      offset = let r = o.room1 in omega arith;
      count_places = pair-places (9 * (S.s + 1)) n k counts l o.room2;
      compared_places = pair-places (9 * (S.s + 1)) n k compared l o.room3;
      greys = o.greys;
      bitmaps = o.bitmaps;
    }

-- The same lengths have the same room.
pub room-kept : (S : Setup) (n : ℕ) (ps : List ℕ) (rasters pairs counts compared grey words pairs' counts' compared' grey' words' : ℕ)
    → pairs' ≡ pairs → counts' ≡ counts → compared' ≡ compared → grey' ≡ grey → words' ≡ words
    → PairsOk S n ps rasters pairs counts compared grey words → PairsOk S n ps rasters pairs' counts' compared' grey' words'
room-kept S n ps rasters pairs counts compared grey words pairs' counts' compared' grey' words' a b c d e o = rw (a, b, c, d, e) o

pub frames-at : (S : Setup) (k rasters pairs counts compared grey words i j first second : ℕ) → Room S k rasters pairs counts compared grey words
    → first ≡ place_of i (S.w * S.h) → second ≡ place_of j (S.w * S.h) → Frames first second S grey
frames-at S k rasters pairs counts compared grey words i j first second o a b = record {
  wide = o.shape.wide;
  width = o.shape.size.width;
  high = o.shape.high;
  height = o.shape.size.height;
  halvings = o.shape.halvings;
  percentiles = o.percentiles;
  one = let p = place-fits i (S.w * S.h) in omega arith;
  two = let p = place-fits j (S.w * S.h) in omega arith;
  room = o.greys;
}

-- a frame's place lies in the lent memory
pub place-room : (w h s k grey place : ℕ) → grey_needed s w h ≤ grey → place ≡ place_of k (w * h) → place + w * h ≤ grey
place-room w h s k grey place l e = let a = level-pixels-at s w h in let b = place-fits k (w * h) in omega arith

-- A pair's run, from what its three parts leave: the conversion, the alignment, the offset put.
module _ (preferred : List Offset) (S : Setup) (k first second at : ℕ) (rasters part grey0 grey1 grey2 counts counts' compared compared' : List ℕ) (pairs pairs' : List ℤ) (m : Offset)
    (e1 : first ≡ place_of k (S.w * S.h)) (e2 : second ≡ place_of (k + 1) (S.w * S.h)) (e3 : at ≡ k * (9 * (S.s + 1)))
    (e4 : part ≡ drop ((k + 1) * (3 * (S.w * S.h))) rasters)
    (stands : Stands S rasters k grey0)
    (new : RowAt second (grey_at part) grey0 (S.w * S.h) grey1)
    (aligns : Aligns preferred S first second at grey1 grey2 counts counts' compared compared' m)
    (stored : pairs' ≡ with_offset k m pairs) where
  apart : (first + S.w * S.h ≤ second) ⊎ (second + S.w * S.h ≤ first)
  apart = rw (e1, e2) (place-apart k (S.w * S.h))

  first-stands : SameFrame S.w S.h (frame_of S.w (drop first grey1)) (frame_at S rasters k)
  first-stands x y i j =
      frame-kept first S.w S.h grey0 grey1 (row_apart first second (S.w * S.h) (S.w * S.h) (grey_at part) grey0 grey1 apart new) x y i j
      ∙ ap (λ (p : ℕ). frame_of S.w (drop p grey0) x y) e1
      ∙ stands x y i j

  second-stands : SameFrame S.w S.h (frame_of S.w (drop second grey1)) (frame_at S rasters (k + 1))
  second-stands x y i j =
      converted S.w S.h second part grey0 grey1 new x y i j
      ∙ ap (λ (l : List ℕ). grey_frame S.w l x y) e4

  answer-is : aligned_in preferred S first second grey1 ≡ pair_at preferred S rasters k
  answer-is =
      pair-ext preferred (rule_of S.exclusion) S.percentile S.s S.w S.h
      (frame_of S.w (drop first grey1)) (frame_at S rasters k) (frame_of S.w (drop second grey1)) (frame_at S rasters (k + 1))
      first-stands second-stands

  -- either list of the answer
  list_written : (list : Aligned → List ℕ) (before after : List ℕ)
      → RowAt at (λ i. get_or (list (aligned_in preferred S first second grey1)) i 0) before (9 * (S.s + 1)) after
      → RowAt (k * (9 * (S.s + 1))) (λ i. get_or (list (pair_at preferred S rasters k)) i 0) before (9 * (S.s + 1)) after
  list_written list before after written =
      subst (λ (p : ℕ). RowAt p (λ i. get_or (list (pair_at preferred S rasters k)) i 0) before (9 * (S.s + 1)) after) e3
      (subst (λ (a : Aligned). RowAt at (λ i. get_or (list a) i 0) before (9 * (S.s + 1)) after) answer-is written)

  pub ran : Ran S k rasters (pair_at preferred S rasters k) pairs pairs' counts counts' compared compared' grey2
  ran = record {
    stands = λ x y i j.
        ap (λ (p : ℕ). frame_of S.w (drop p grey2) x y) (sym e2)
        ∙ frame-kept second S.w S.h grey1 grey2 (λ q a b. aligns.kept q (let p = place-fits (k + 1) (S.w * S.h) in omega arith)) x y i j
        ∙ second-stands x y i j;
    offset = stored ∙ ap (λ (o : Offset). with_offset k o pairs) (aligns.offset ∙ ap (λ (a : Aligned). a.offset) answer-is);
    counts_written = list_written (λ a. a.counts) counts counts' aligns.counts_written;
    compared_written = list_written (λ a. a.compared) compared compared' aligns.compared_written;
  }

-- The pairs' lists, counts or compared numbers, one after another in a lent buffer.
module _ (each n : ℕ) (lists : ℕ → List ℕ) (sizes : (j : ℕ) → length (lists j) ≡ each) where
  abbrev at : ℕ → ℕ
  at i = get_or (joined (n - 1) lists) i 0

  lists-none : (before : List ℕ) → RowAt 0 at before (0 * each) before
  lists-none before = subst (λ (p : ℕ). RowAt 0 at before p before) (sym (zero-mul each)) (row-none 0 at before)

  lists-more : (k : ℕ) (before mid after : List ℕ) → k + 1 < n → RowAt 0 at before (k * each) mid → RowAt (k * each) (λ i. get_or (lists k) i 0) mid each after
      → RowAt 0 at before ((k + 1) * each) after
  lists-more k before mid after l a b =
      subst (λ (p : ℕ). RowAt 0 at before p after) (sym (ap (λ (j : ℕ). j * each) (add-one k) ∙ suc-mul k each))
      (row-join 0 at (λ i. get_or (lists k) i 0) before mid after (k * each) each a
      (subst (λ (p : ℕ). RowAt p (λ i. get_or (lists k) i 0) mid each after) (sym (zero-add (k * each))) b)
      (λ j i. sym (joined_at each lists sizes (n - 1) k j (omega arith) i)))

  lists-all : (k : ℕ) (before after : List ℕ) → k + 1 ≡ n → each * (n - 1) ≤ length before → RowAt 0 at before (k * each) after → after ≡ written_over (joined (n - 1) lists) before
  lists-all k before after l room a =
      let last : k ≡ n - 1 = omega arith in
      let size = joined_length each lists sizes (n - 1) in
      row_written (joined (n - 1) lists) before after (length (joined (n - 1) lists)) refl
      (let c = mul_comm each (n - 1) in omega arith)
      (subst (λ (p : ℕ). RowAt 0 at before p after) (ap (λ (j : ℕ). j * each) last ∙ sym size) a)

-- the answers of all pairs have as many numbers as their levels have candidates
pub record Sizes (S : Setup) (answers : ℕ → Aligned) : Type 0 where
  pub counts : (j : ℕ) → length (answers j).counts ≡ 9 * (S.s + 1)
  pub compared : (j : ℕ) → length (answers j).compared ≡ 9 * (S.s + 1)

pub pair-sizes : (preferred : List Offset) (S : Setup) (percentiles rasters : List ℕ) → Sizes S (pairs_of preferred S percentiles rasters)
pair-sizes preferred S percentiles rasters = record { counts = counts-sizes preferred S percentiles rasters; compared = compared-sizes preferred S percentiles rasters }

-- The runs of all pairs.
pub run_none : (S : Setup) (n : ℕ) (rasters : List ℕ) (answers : ℕ → Aligned) (pairs : List ℤ) (counts compared grey : List ℕ)
    → Sizes S answers → Stands S rasters 0 grey → Run S n 0 rasters answers pairs pairs counts counts compared compared grey
unfolding offset_list
run_none S n rasters answers pairs counts compared grey sizes stands = record {
  stands = stands;
  offsets = refl;
  counts_written = lists-none (9 * (S.s + 1)) n (λ j. (answers j).counts) sizes.counts counts;
  compared_written = lists-none (9 * (S.s + 1)) n (λ j. (answers j).compared) sizes.compared compared;
}

-- frame 0's place is the beginning
pub first-stands-at : (S : Setup) (rasters grey grey' : List ℕ) → RowAt 0 (grey_at rasters) grey (S.w * S.h) grey' → Stands S rasters 0 grey'
first-stands-at S rasters grey grey' new x y i j =
    ap (λ (p : ℕ). frame_of S.w (drop p grey') x y) (place-even 0 (S.w * S.h) refl)
    ∙ converted S.w S.h 0 rasters grey grey' new x y i j
    ∙ ap (λ (p : ℕ). grey_frame S.w (drop p rasters) x y) (sym (zero-mul (3 * (S.w * S.h))))

pub run_more : (S : Setup) (ps : List ℕ) (n k : ℕ) (rasters : List ℕ) (answers : ℕ → Aligned) (pairs pairs' pairs'' : List ℤ)
    (counts counts' counts'' compared compared' compared'' grey' grey'' : List ℕ)
    → Sizes S answers → k + 1 < n → 2 * (n - 1) ≤ length pairs
    → Run S n k rasters answers pairs pairs' counts counts' compared compared' grey'
    → Ran (setup_at S ps k) k rasters (answers k) pairs' pairs'' counts' counts'' compared' compared'' grey''
    → Run S n (k + 1) rasters answers pairs pairs'' counts counts'' compared compared'' grey''
run_more S ps n k rasters answers pairs pairs' pairs'' counts counts' counts'' compared compared' compared'' grey' grey'' sizes l room a b = record {
  stands = b.stands;
  offsets = put_next (λ j. (answers j).offset) pairs pairs' k a.offsets (omega arith) (answers k).offset pairs'' refl b.offset;
  counts_written = lists-more (9 * (S.s + 1)) n (λ j. (answers j).counts) sizes.counts k counts counts' counts'' l a.counts_written b.counts_written;
  compared_written = lists-more (9 * (S.s + 1)) n (λ j. (answers j).compared) sizes.compared k compared compared' compared'' l a.compared_written b.compared_written;
}

pub run-all : (S : Setup) (n k : ℕ) (rasters : List ℕ) (answers : ℕ → Aligned) (pairs pairs' : List ℤ) (counts counts' compared compared' grey' : List ℕ)
    → Sizes S answers → k + 1 ≡ n → 9 * (S.s + 1) * (n - 1) ≤ length counts → 9 * (S.s + 1) * (n - 1) ≤ length compared
    → Run S n k rasters answers pairs pairs' counts counts' compared compared' grey' → AllRan n answers pairs pairs' counts counts' compared compared'
run-all S n k rasters answers pairs pairs' counts counts' compared compared' grey' sizes l room beside a = record {
  offsets = let last : k ≡ n - 1 = omega arith in a.offsets ∙ ap (λ (j : ℕ). written_over (offset_list j (λ i. (answers i).offset)) pairs) last;
  counts_written = lists-all (9 * (S.s + 1)) n (λ j. (answers j).counts) sizes.counts k counts counts' l room a.counts_written;
  compared_written = lists-all (9 * (S.s + 1)) n (λ j. (answers j).compared) sizes.compared k compared compared' l beside a.compared_written;
}

-- The offsets of the pairs are small.
pub pairs_small : (places : List ℕ) (S : Setup) (n : ℕ) (ps rasters : List ℕ) (pairs pairs' : List ℤ) → S.s ≤ 8
    → pairs' ≡ written_over (offset_list n (λ j. (pairs_of (arranged places) S ps rasters j).offset)) pairs → SmallPairs n pairs'
pairs_small places S n ps rasters pairs pairs' low e j l =
    rw (e, written-pair n (λ i. (pairs_of (arranged places) S ps rasters i).offset) pairs j l)
    (near-more (2 ^ suc S.s - 1) max_offset (pairs_of (arranged places) S ps rasters j).offset
    (let p = pow_mono {i = suc S.s} {j = 9} (omega arith) in omega arith)
    (near-pair (arranged places) (near-arranged places) (rule_of S.exclusion) (get_or ps j 0) S.s S.w S.h (frame_at S rasters j) (frame_at S rasters (j + 1))))
