-- The numbers over the words of a level, and its offset by the rank of its count among the nine.
use mathlib.Core.Path.{◌≡◌, sym, ap, ◌∙◌}
use mathlib.Core.List.{List, map}
use Prim.Native.Nat.{ℕ, ◌+◌, ◌*◌, ◌<◌}
use native.Mathlib.Omega.{arith}
use lib.ListN.{length, get_or}
use Rattle.rules.specs.declared.Offset.{Offset}
use Rattle.rules.specs.declared.Setup.{Setup}
use Rattle.rules.specs.Frames.{frame_of}
use Rattle.rules.specs.Bitmaps.{row_words}
use Rattle.rules.specs.Differences.{Planes, SamePlanes}
use Rattle.rules.specs.Levels.{still, added, Arrangement, arranged, rule_of, planes_by, chosen, count_at, compared_at, candidate_at}
use Rattle.rules.specs.Buffers.{RowAt}
use Rattle.rules.proofs.DifferenceLaws.{difference-ext, compared-ext}
use Rattle.rules.proofs.FrameLaws.{row-ext}
use Rattle.rules.proofs.LevelLaws.{chosen_is, arranged-at, arranged-length}
use Rattle.candidates.specs.Leading.{counts_by, Leading}
use Rattle.level_planes.specs.LevelPlanes.{PackedAt}
use Rattle.level_planes.proofs.PlaneLaws.{planes-kept}
use Rattle.level_counts.specs.NineCounts.{nine_of}
use Rattle.slid_counts.specs.SlidPlaces.{first_in, second_in, words_count, words_compared}
use Rattle.level.specs.Choices.{count_by, compared_by, LevelAligned}

-- The bitmaps in the words are those of the frames, and so are the numbers over them.
module _ (S : Setup) (a b : List ℕ) (none mid words : List ℕ) (place : ℕ) (e : place ≡ 2 * (row_words S.w * S.h))
    (p : PackedAt S a 0 none mid) (q : PackedAt S b place mid words) where
  abbrev planes : List ℕ → Planes
  planes f = planes_by (rule_of S.exclusion) S.percentile S.w S.h (frame_of S.w f)

  first : SamePlanes S.w S.h (first_in S.w S.h words) (planes a)
  first =
      let one : 0 + row_words S.w * S.h ≡ row_words S.w * S.h = omega arith in
      rw one at (planes-kept S.w S.h 0 mid words (planes a) (λ i l. q.under i (omega arith)) p.planes)

  second : SamePlanes S.w S.h (second_in S.w S.h words) (planes b)
  second = let three : place + row_words S.w * S.h ≡ 3 * (row_words S.w * S.h) = omega arith in rw (three, e) at q.planes

  pub words-count : (m : Offset) → words_count S.w S.h words m ≡ count_by S (frame_of S.w a) (frame_of S.w b) m
  unfolding words_count count_at
  words-count m = difference-ext S.w S.h m.dx m.dy (first_in S.w S.h words) (planes a) (second_in S.w S.h words) (planes b) first second

  pub words-compared : (m : Offset) → words_compared S.w S.h words m ≡ compared_by S (frame_of S.w a) (frame_of S.w b) m
  unfolding words_compared compared_at
  words-compared m = compared-ext S.w S.h m.dx m.dy (first_in S.w S.h words) (planes a) (second_in S.w S.h words) (planes b) first second

-- the rank of the first least count is that of the first candidate with the least
module _ (count : Offset → ℕ) (centre : Offset) (places : List ℕ) (arrangement : Arrangement places) (at : ℕ) (before after : List ℕ) (best : ℕ)
    (r : RowAt at (nine_of count centre) before 9 after) (p : Leading (counts_by after at places) 9 best) where
  candidates : List Offset
  candidates = map (added centre) (arranged places)

  ranked : (k : ℕ) → k < 9 → get_or (map (added centre) (arranged places)) k still ≡ candidate_at centre (get_or places k 0)
  ranked k l = arranged-at centre places k (rw arrangement.nine l) (arrangement.inside k l)

  count_of : (k : ℕ) → k < 9 → counts_by after at places k ≡ count (get_or (map (added centre) (arranged places)) k still)
  count_of k l = r.done (get_or places k 0) (arrangement.inside k l) ∙ sym (ap count (ranked k l))

  chosen_at : candidate_at centre (get_or places best 0) ≡ chosen count (map (added centre) (arranged places))
  chosen_at =
      let size : length (map (added centre) (arranged places)) ≡ 9 = arranged-length centre places ∙ arrangement.nine in
      let here = count_of best p.inside in
      sym (ranked best p.inside)
      ∙ sym (chosen_is count (map (added centre) (arranged places)) best (record {
        inside = rw size p.inside;
        least = λ k l. let m : k < 9 = rw size at l in let d = count_of k m in let o = p.least k m in omega arith;
        first = λ k l. let m : k < 9 = (let i = p.inside in omega arith) in let d = count_of k m in let o = p.first k l in omega arith;
      }))

-- a level's answer, by other numbers that are the same
pub level-aligned : (count same out_of equal : Offset → ℕ) (centre : Offset) (places : List ℕ) (at : ℕ) (counts counts' compared compared' : List ℕ) (best : ℕ) (r : Offset)
    → Arrangement places → ((m : Offset) → count m ≡ same m) → ((m : Offset) → out_of m ≡ equal m)
    → RowAt at (nine_of count centre) counts 9 counts' → RowAt at (nine_of out_of centre) compared 9 compared'
    → Leading (counts_by counts' at places) 9 best → r ≡ candidate_at centre (get_or places best 0)
    → LevelAligned (arranged places) same equal centre at counts counts' compared compared' r
level-aligned count same out_of equal centre places at counts counts' compared compared' best r arrangement e f written beside p o =
    let s : RowAt at (nine_of same centre) counts 9 counts' =
    row-ext at (nine_of count centre) (nine_of same centre) counts counts' 9 (λ k l. e (candidate_at centre k)) written in
    record {
      offset = o ∙ chosen_at same centre places arrangement at counts counts' best s p;
      nine_counts = s;
      nine_compared = row-ext at (nine_of out_of centre) (nine_of equal centre) compared compared' 9 (λ k l. f (candidate_at centre k)) beside;
    }
