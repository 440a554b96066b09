-- Laws of the decision: which number is printed, or else the alignment.
use Rattle.std.specs.Prelude.{Ok, Err}
use mathlib.Core.Path.{◌≡◌, refl, sym, ap, ◌∙◌}
use mathlib.Core.Bool.{Bool, true, false, ◌&&◌, cond, true≢false}
use mathlib.Core.List.{List, [], ◌++◌}
use Prim.Native.Nat.{ℕ, zero, suc, ◌*◌, ◌≤◌}
use native.Mathlib.Nat.{mul-le-mul}
use native.Mathlib.Omega.{arith}
use lib.Dec.{eqb}
use lib.ListN.{length, drop}
use Rattle.rules.specs.declared.Offset.{Offset}
use Rattle.rules.specs.declared.Exclusion.{Exclusion}
use Rattle.rules.specs.Answers.{buffer_after, answer_for}
use Rattle.rules.specs.Levels.{by_tolerance, Aligned}
use Rattle.rules.specs.Refusals.{◌or_else◌}
use Rattle.rules.specs.Calls.{pair_result}
use Rattle.rules.specs.Accepted.{PairOk}
use Rattle.rules.proofs.AlignmentLaws.{pair_ok}
use Rattle.rules.proofs.LevelLaws.{counts-length}
use Rattle.ppm_read.specs.declared.Size.{Size}
use Rattle.p6_header.specs.P6Header.{header_of}
use Rattle.ppm_read.specs.P6.{size_in, p6_refusal, raster_of, size_answer}
use Rattle.output_lines.specs.Lines.{refused_text, offset_text, levels_text, aligned_text}
use Rattle.files_text.specs.FilesText.{counts_lent, grey_lent, words_lent, second_raster, ward_result, bracket_refusal, answer_text, files_text}
use Rattle.files_text.specs.PairTexts.{lent_refusal, pair_text, raster_of_size}
use Rattle.output_lines.proofs.TextLaws.{levels-enough}

pub not-zero : (n : ℕ) → eqb n 0 ≡ false → n ≡ 0 → ⊥
not-zero n e z = true≢false (sym (ap (λ (k : ℕ). eqb k 0) z) ∙ e)

-- A call that refuses: its number is printed.
pair-refused : (r n : ℕ) (m : Offset) (text : List ℕ) → answer_for r m ≡ Err n → answer_text r text ≡ refused_text n
unfolding answer_text
pair-refused zero n m text e = let z : ◌≡◌ {A = ℕ} 0 1 = cc in absurd (omega arith)
pair-refused (suc r) n m text e = let d : suc r ≡ n = cc in rw d

read-refused : (r n : ℕ) (size : Size) (rest : ℕ) (text : List ℕ) → answer_for r size ≡ Err n → answer_text (r or_else rest) text ≡ refused_text n
unfolding answer_text
read-refused zero n size rest text e = let z : ◌≡◌ {A = ℕ} 0 1 = cc in absurd (omega arith)
read-refused (suc r) n size rest text e = let d : suc r ≡ n = cc in rw d

-- A call that accepts: its number is 0.
pair-moved : (r : ℕ) (m z : Offset) → answer_for r m ≡ Ok z → (r ≡ 0) × (m ≡ z)
pair-moved zero m z e = (refl, cc)
pair-moved (suc r) m z e = let z : ◌≡◌ {A = ℕ} 0 1 = cc in absurd (omega arith)

read-frame : (r : ℕ) (size z : Size) → answer_for r size ≡ Ok z → (r ≡ 0) × (size ≡ z)
read-frame zero size z e = (refl, cc)
read-frame (suc r) size z e = let z : ◌≡◌ {A = ℕ} 0 1 = cc in absurd (omega arith)

answer-same : (r : ℕ) (t u : List ℕ) → (r ≡ 0 → t ≡ u) → answer_text r t ≡ answer_text r u
unfolding answer_text
answer-same zero t u same = same refl
answer-same (suc r) t u same = refl

past-both : (a b rest : ℕ) (text : List ℕ) → a ≡ 0 → b ≡ 0 → answer_text (a or_else b or_else rest) text ≡ answer_text rest text
past-both a b rest text e f = rw (e, f)

-- The pair call's answer as text.
module _ (size : Size) (s tolerance percentile : ℕ) (first second : List ℕ) where
  abbrev pub number : ℕ
  number = lent_refusal size s tolerance percentile first second

  abbrev pub result : Aligned
  result = ward_result size s tolerance percentile first second

  pub pair-refused-text : (n : ℕ) → answer_for number result.offset ≡ Err n → pair_text size s tolerance percentile first second ≡ refused_text n
  unfolding pair_text
  pair-refused-text n e = pair-refused number n result.offset (aligned_text s result) e

  -- the counts stand at the beginning of their buffer
  module _ (m : Offset) (e : answer_for number result.offset ≡ Ok m) where
    accepted : (number ≡ 0) × (result.offset ≡ m)
    accepted = pair-moved number result.offset m e

    pub halvings : s ≤ 8
    halvings = (pair_ok size.w size.h s (Exclusion.Tolerance tolerance) percentile (length first) (length second) counts_lent counts_lent grey_lent words_lent accepted.0).shape.halvings

    pub pair-moved-text : (before after : List ℕ) → after ≡ buffer_after number result.counts before
        → pair_text size s tolerance percentile first second ≡ offset_text m.dx m.dy ++ levels_text s after
    unfolding pair_text answer_text pair_result
    pair-moved-text before after d =
        let size_is = counts-length _ (by_tolerance tolerance) percentile s size.w size.h _ _ in
        let counts : levels_text s after ≡ levels_text s result.counts =
        rw (d, accepted.0) (levels-enough s result.counts (drop (length result.counts) before) size_is) in
        rw (accepted.0, accepted.1, counts)

-- The two files, one after the other.
module _ (s tolerance percentile : ℕ) (first second : List ℕ) where
  pub first-refused : (n : ℕ) → size_answer first ≡ Err n → files_text s tolerance percentile first second ≡ refused_text n
  unfolding files_text bracket_refusal
  first-refused n e = read-refused (p6_refusal first) n (size_in (header_of first)) _ _ e

  module _ (one : Size) (e : size_answer first ≡ Ok one) where
    good1 : (p6_refusal first ≡ 0) × (size_in (header_of first) ≡ one)
    good1 = read-frame (p6_refusal first) (size_in (header_of first)) one e

    pub second-refused : (n : ℕ) → size_answer second ≡ Err n → files_text s tolerance percentile first second ≡ refused_text n
    unfolding files_text bracket_refusal
    second-refused n d = rw good1.0 (read-refused (p6_refusal second) n (size_in (header_of second)) _ _ d)

    module _ (two : Size) (f : size_answer second ≡ Ok two) where
      good2 : (p6_refusal second ≡ 0) × (size_in (header_of second) ≡ two)
      good2 = read-frame (p6_refusal second) (size_in (header_of second)) two f

      same-raster : second_raster first second ≡ raster_of_size one two second
      unfolding second_raster raster_of_size
      same-raster = rw (good1.1, good2.1)

      -- an accepted second raster has bytes, so its frame has the first one's size
      kept : number one s tolerance percentile (raster_of first) (raster_of_size one two second) ≡ 0 → raster_of second ≡ raster_of_size one two second
      unfolding raster_of_size
      kept z = tested (eqb one.w two.w && eqb one.h two.h) k.exact2
        where
          k : PairOk one.w one.h s (Exclusion.Tolerance tolerance) percentile (length (raster_of first)) (length (raster_of_size one two second)) counts_lent counts_lent grey_lent words_lent
          k = pair_ok one.w one.h s (Exclusion.Tolerance tolerance) percentile (length (raster_of first)) (length (raster_of_size one two second)) counts_lent counts_lent grey_lent words_lent z

          tested : (t : Bool) → length (cond t (raster_of second) []) ≡ 3 * (one.w * one.h) → raster_of second ≡ cond t (raster_of second) []
          tested true d = refl
          tested false d = absurd (omega (arith, mul-le-mul k.shape.size.wide k.shape.size.high))

      pub same_number : bracket_refusal s tolerance percentile first second ≡ number one s tolerance percentile (raster_of first) (raster_of_size one two second)
      unfolding bracket_refusal
      same_number = rw (good1.0, good2.0, good1.1, same-raster)

      pub both-good : files_text s tolerance percentile first second ≡ pair_text one s tolerance percentile (raster_of first) (raster_of_size one two second)
      unfolding files_text bracket_refusal pair_text
      both-good =
          past-both (p6_refusal first) (p6_refusal second) _ _ good1.0 good2.0
          ∙ rw (good1.1, same-raster)
          (answer-same (number one s tolerance percentile (raster_of first) (raster_of_size one two second)) _ _
          (λ z. ap (λ (l : List ℕ). aligned_text s (result one s tolerance percentile (raster_of first) l)) (kept z)))
