-- The differences and the compared pixels of two frames, row by row and word by word.
use mathlib.Core.Path.{◌≡◌, refl, sym, ap, ap₂, subst, ◌∙◌}
use mathlib.Core.Bool.{Bool, true, false, ◌&&◌, not}
use mathlib.Core.Logic.{⊎_elim}
use mathlib.Core.List.{List}
use Prim.Native.Nat.{ℕ, ◌+◌, ◌*◌, ◌-◌, ◌/◌, ◌≤◌, ◌<◌, min}
use native.Mathlib.Omega.{arith}
use lib.Dec.{ltb, leb, eqb}
use lib.ListN.{get_or}
use lib.IntN.{ℤ, pos, negsuc, ◌-ℤ◌}
use lib.Bits.{bit_and, bit_xor, differ}
use mir.Syntax.{w32}
use mir.Val.{SFits}
use Rattle.rules.specs.Sums.{gate, sum, row_sum, sum_pixels}
use Rattle.rules.specs.Bitmaps.{bit, bit_at, row_words}
use Rattle.rules.specs.Frames.{Frame}
use Rattle.rules.specs.Planes.{within}
use Rattle.rules.specs.Differences.{Planes, differ as differ_pixels, keep, with_partner, difference, compared}
use Rattle.rules.specs.Calls.{planes_of}
use Rattle.rules.proofs.SumLaws.{order, gate-le, and-false, sum-ext, sum-zero, pixels-ext}
use Rattle.words.specs.declared.moves.Move.{Move}
use Rattle.words.specs.Rows.{WordOf, row_bit, back, bias, bias_words, bias_of}
use Rattle.words.specs.Moves.{moved_bit, Joined, Interior}
use Rattle.words.proofs.BitLaws.{bit-and, bit-xor, bit-zero}
use Rattle.words.proofs.MoveLaws.{gate-lt, gate-ge, row-bit, row-whole, row-past, back_at, back-under, within-back, within-zero}
use Rattle.words.proofs.JoinLaws.{MovedIn, raw_word, raw-moved, joined-moved, whole-moved}
use Rattle.popcount.specs.RowCounts.{Adds}
use Rattle.tallies.specs.Tallies.{tally, both, WordsOf}
use Rattle.differing.specs.declared.FramePair.{FramePair}
use Rattle.differing.specs.RowDifferences.{disagree, both_kept, row_differ, row_kept, row_tally, line_tally, moved_tally}
use Rattle.popcount.proofs.AdderLaws.{Bit, off, on, bit-case}
use Rattle.differing.proofs.KeptLaws.{kept_bit, masked-kept, kept-is, row-case, moved-case, kept-first, kept-partner, kept_word, kept-right}
use Rattle.popcount.proofs.RowLaws.{word_none, adds-more, row-sum, bit_at-in}
use Rattle.tallies.proofs.TallyLaws.{pixels-both, adds-both, word-both, both-le, tally-le}

-- ---- the four bits of a pixel

pub disagree-lt : (t1 e1 t2 e2 : ℕ) → disagree t1 e1 t2 e2 < 2
unfolding disagree
disagree-lt t1 e1 t2 e2 = let a = gate-le (eqb e1 1 && (eqb e2 1 && not (eqb t1 t2))) 1 in omega arith

-- a pixel that one exclusion bit leaves out
disagree-left : (t1 t2 e2 : ℕ) → disagree t1 0 t2 e2 ≡ 0
unfolding disagree
disagree-left t1 t2 e2 = refl

disagree-right : (t1 e1 t2 : ℕ) → disagree t1 e1 t2 0 ≡ 0
unfolding disagree
disagree-right t1 e1 t2 = and-false (eqb e1 1)

both_left : (e2 : ℕ) → both_kept 0 e2 ≡ 0
unfolding both_kept
both_left e2 = refl

both_right : (e1 : ℕ) → both_kept e1 0 ≡ 0
unfolding both_kept
both_right e1 = and-false (eqb e1 1)

pub both-lt : (e1 e2 : ℕ) → both_kept e1 e2 < 2
unfolding both_kept
both-lt e1 e2 = let a = gate-le (eqb e1 1 && eqb e2 1) 1 in omega arith

-- what two pixels add to a tally; one that is left out adds nothing
abbrev pub pixel_tally : ℕ → ℕ → ℕ → ℕ → ℕ
pixel_tally t1 e1 t2 e2 = tally (disagree t1 e1 t2 e2) (both_kept e1 e2)

tally-left : (t1 t2 e2 : ℕ) → pixel_tally t1 0 t2 e2 ≡ 0
tally-left t1 t2 e2 = omega (arith, disagree-left t1 t2 e2, both_left e2)

pub tally-right : (t1 e1 t2 : ℕ) → pixel_tally t1 e1 t2 0 ≡ 0
tally-right t1 e1 t2 = omega (arith, disagree-right t1 e1 t2, both_right e1)

-- exclusive-or first, exclusion after it
masked-disagree : {t1 e1 t2 e2 : ℕ} → Bit t1 → Bit e1 → Bit t2 → Bit e2 → min (differ t1 t2) (min e1 e2) ≡ disagree t1 e1 t2 e2
unfolding disagree
masked-disagree off off off off = refl
masked-disagree off off off on = refl
masked-disagree off off on off = refl
masked-disagree off off on on = refl
masked-disagree off on off off = refl
masked-disagree off on off on = refl
masked-disagree off on on off = refl
masked-disagree off on on on = refl
masked-disagree on off off off = refl
masked-disagree on off off on = refl
masked-disagree on off on off = refl
masked-disagree on off on on = refl
masked-disagree on on off off = refl
masked-disagree on on off on = refl
masked-disagree on on on off = refl
masked-disagree on on on on = refl

-- a pixel that is not kept
excluded : (t1 t2 : ℕ) {e1 e2 : ℕ} → Bit e1 → Bit e2 → min e1 e2 ≡ 0 → disagree t1 e1 t2 e2 ≡ 0
excluded t1 t2 {e2 = e2} off b l = disagree-left t1 t2 e2
excluded t1 t2 on off l = disagree-right t1 1 t2
excluded t1 t2 on on l = absurd (omega arith)

-- ---- the pixels of a word

pub mixed-bit : (t1 e1 t2 e2 i : ℕ) → bit (bit_and (bit_xor t1 t2) (bit_and e1 e2)) i ≡ disagree (bit t1 i) (bit e1 i) (bit t2 i) (bit e2 i)
mixed-bit t1 e1 t2 e2 i =
    bit-and (bit_xor t1 t2) (bit_and e1 e2) i
    ∙ ap₂ (λ (a b : ℕ). min a b) (bit-xor t1 t2 i) (bit-and e1 e2 i)
    ∙ masked-disagree (bit-case t1 i) (bit-case e1 i) (bit-case t2 i) (bit-case e2 i)

pub mixed-kept : (e1 e2 i : ℕ) → bit (bit_and e1 e2) i ≡ both_kept (bit e1 i) (bit e2 i)
mixed-kept e1 e2 i = bit-and e1 e2 i ∙ masked-kept (bit-case e1 i) (bit-case e2 i)

pub row_tally-past : (t1 e1 t2 e2 : List ℕ) (base from w d x : ℕ) → w ≤ x → row_tally t1 e1 t2 e2 base from w d x ≡ 0
unfolding row_differ row_kept
row_tally-past t1 e1 t2 e2 base from w d x l =
    ap (λ (n : ℕ). pixel_tally (row_bit t1 base w x) n (moved_bit t2 from w d x) (moved_bit e2 from w d x)) (row-past e1 base w x l)
    ∙ tally-left (row_bit t1 base w x) (moved_bit t2 from w d x) (moved_bit e2 from w d x)

module _ (t1 e1 t2 e2 : List ℕ) (base from w d k kept : ℕ) (a : WordOf (kept_bit e1 e2 base from w d) k kept) where
  kept-bits : WordOf (row_kept e1 e2 base from w d) k kept
  kept-bits i l = a i l ∙ kept-is e1 e2 base from w d (k * 64 + i)

  -- A word of the difference of two rows. Threshold bits matter only where the pixel is kept, so inside both rows.
  differ-word : (u2 : ℕ) → MovedIn t2 from w d k u2 → WordOf (row_differ t1 e1 t2 e2 base from w d) k (bit_and (bit_xor (get_or t1 (base + k) 0) u2) kept)
  unfolding row_differ
  differ-word u2 c i l =
      bit-and (bit_xor u1 u2) kept i
      ∙ ap (λ (n : ℕ). min n (bit kept i)) (bit-xor u1 u2 i)
      ∙ same (bit-case kept i) (a i l)
      ∙ ap (λ (n : ℕ). min (differ (row_bit t1 base w x) (moved_bit t2 from w d x)) n) (a i l)
      ∙ masked-disagree (row-case t1 base w x) (row-case e1 base w x) (moved-case t2 from w d x) (moved-case e2 from w d x)
    where
      u1 : ℕ
      u1 = get_or t1 (base + k) 0

      x : ℕ
      x = k * 64 + i

      same : {n : ℕ} → Bit n → n ≡ kept_bit e1 e2 base from w d x
          → min (differ (bit u1 i) (bit u2 i)) n ≡ min (differ (row_bit t1 base w x) (moved_bit t2 from w d x)) n
      same off e = omega arith
      same on e =
          let b = kept-first e1 e2 base from w d x (sym e) in
          let m = kept-partner e1 e2 base from w d x (sym e) in
          ap₂ (λ (p q : ℕ). min (differ p q) 1) (sym (row-bit t1 base w k i b l)) (c i l m.0 m.1)

  differ-words : (u2 : ℕ) → MovedIn t2 from w d k u2
      → WordsOf (row_differ t1 e1 t2 e2 base from w d) (row_kept e1 e2 base from w d) k (record { differing = bit_and (bit_xor (get_or t1 (base + k) 0) u2) kept; kept = kept })
  differ-words u2 c = (differ-word u2 c, kept-bits)

  pub differ-adds : (u2 r : ℕ) → MovedIn t2 from w d k u2 → r ≡ tally (sum 64 (bit (bit_and (bit_xor (get_or t1 (base + k) 0) u2) kept))) (sum 64 (bit kept))
      → Adds (row_tally t1 e1 t2 e2 base from w d) k (k + 1) r
  differ-adds u2 r c o =
      word-both (row_differ t1 e1 t2 e2 base from w d) (row_kept e1 e2 base from w d) k (record { differing = bit_and (bit_xor (get_or t1 (base + k) 0) u2) kept; kept = kept }) r
      (differ-words u2 c) o

  -- a word of which no pixel is kept
  none_kept : kept ≡ 0 → WordOf (row_differ t1 e1 t2 e2 base from w d) k 0
  unfolding row_differ
  none_kept z i l =
      let x : ℕ = k * 64 + i in
      let m : kept_bit e1 e2 base from w d x ≡ 0 = sym (a i l) ∙ ap (λ (v : ℕ). bit v i) z ∙ bit-zero i in
      bit-zero i ∙ sym (excluded (row_bit t1 base w x) (moved_bit t2 from w d x) (row-case e1 base w x) (moved-case e2 from w d x) m)

  pub none-adds : kept ≡ 0 → Adds (row_tally t1 e1 t2 e2 base from w d) k (k + 1) 0
  none-adds z =
      adds-both (row_differ t1 e1 t2 e2 base from w d) (row_kept e1 e2 base from w d) k (k + 1) 0 0
      (word_none (row_differ t1 e1 t2 e2 base from w d) k (none_kept z)) (word_none (row_kept e1 e2 base from w d) k (rw z at kept-bits))

-- an interior word
pub interior-differ : (t1 e1 t2 e2 : List ℕ) (base from w q r k j u2 k2 : ℕ) → r < 64 → Interior (w / 64) q k → j ≡ from + k + bias_words - q
    → Joined (get_or t2 j 0) (get_or t2 (j - 1) 0) r u2 → Joined (get_or e2 j 0) (get_or e2 (j - 1) 0) r k2
    → WordsOf (row_differ t1 e1 t2 e2 base from w (q * 64 + r)) (row_kept e1 e2 base from w (q * 64 + r)) k
    (record { differing = bit_and (bit_xor (get_or t1 (base + k) 0) u2) (bit_and (get_or e1 (base + k) 0) k2); kept = bit_and (get_or e1 (base + k) 0) k2 })
interior-differ t1 e1 t2 e2 base from w q r k j u2 k2 l n e a b =
    let s : ℕ = k + 33554432 - q in
    let h = n.high in
    let o = n.low in
    differ-words t1 e1 t2 e2 base from w (q * 64 + r) k (bit_and (get_or e1 (base + k) 0) k2)
    (kept_word e1 e2 base from w (q * 64 + r) k (get_or e1 (base + k) 0) k2 (row-whole e1 base w k (omega (arith, n.here)))
    (λ i m x. raw-moved e2 from w q r k s j (j - 1) k2 l (omega arith) (omega arith) (omega arith) (omega arith) b i m (omega arith) (omega arith)))
    u2 (raw-moved t2 from w q r k s j (j - 1) u2 l (omega arith) (omega arith) (omega arith) (omega arith) a)

-- the last word of a row moved by at most a word to the left: no pixel lies past it
pub last-adds : (t1 e1 t2 e2 : List ℕ) (base from w q r k k2 u2 bits : ℕ) → r < 64 → (low : ℕ) → q + 1 ≡ bias_words → w ≤ (k + 1) * 64 → WordOf (row_bit e2 from w) k low
    → Joined 0 low r k2 → Joined 0 (get_or t2 (from + k) 0) r u2
    → bits ≡ tally (sum 64 (bit (bit_and (bit_xor (get_or t1 (base + k) 0) u2) (bit_and (get_or e1 (base + k) 0) k2)))) (sum 64 (bit (bit_and (get_or e1 (base + k) 0) k2)))
    → Adds (row_tally t1 e1 t2 e2 base from w (q * 64 + r)) k (k + 1) bits
last-adds t1 e1 t2 e2 base from w q r k k2 u2 bits l low e n b f g =
    let z : k ≡ k + 1 - 1 = omega arith in
    differ-adds t1 e1 t2 e2 base from w (q * 64 + r) k (bit_and (get_or e1 (base + k) 0) k2)
    (kept-right e1 e2 base from w (q * 64 + r) k k2 (omega arith)
    (whole-moved e2 from w q r k (k + 1) 0 low k2 l (omega arith) (omega arith)
    (λ i m. bit-zero i ∙ sym (row-past e2 from w ((k + 1) * 64 + i) (omega arith))) (subst (λ (j : ℕ). WordOf (row_bit e2 from w) j low) z b) f))
    u2 bits
    (λ i m o x. joined-moved t2 from w w q r k (k + 1) 0 (get_or t2 (from + k) 0) u2 l (omega arith) (omega arith)
    (λ j p y. absurd (omega arith)) (raw_word t2 from w (k + 1 - 1) (from + k) (omega arith)) g i m x)

-- ---- rows and frames

row_differ-lt : (t1 e1 t2 e2 : List ℕ) (base from w d x : ℕ) → row_differ t1 e1 t2 e2 base from w d x < 2
unfolding row_differ
row_differ-lt t1 e1 t2 e2 base from w d x = disagree-lt (row_bit t1 base w x) (row_bit e1 base w x) (moved_bit t2 from w d x) (moved_bit e2 from w d x)

row_kept-lt : (e1 e2 : List ℕ) (base from w d x : ℕ) → row_kept e1 e2 base from w d x < 2
unfolding row_kept
row_kept-lt e1 e2 base from w d x = both-lt (row_bit e1 base w x) (moved_bit e2 from w d x)

row_tally-le : (t1 e1 t2 e2 : List ℕ) (base from w d x : ℕ) → row_tally t1 e1 t2 e2 base from w d x ≤ 4294967297
row_tally-le t1 e1 t2 e2 base from w d = both-le (row_differ t1 e1 t2 e2 base from w d) (row_kept e1 e2 base from w d) (row_differ-lt t1 e1 t2 e2 base from w d) (row_kept-lt e1 e2 base from w d)

pub moved_tally-le : (p : FramePair) (base from : ℕ) (m : Move) (x : ℕ) → moved_tally p base from m x ≤ 4294967297
moved_tally-le p base from m x = row_tally-le p.threshold1.now p.exclusion1.now p.threshold2.now p.exclusion2.now base from m.w (m.q * 64 + m.r) x

-- pixel (x, y) of the first frame's bitmaps and its partner in the second's
abbrev planes_tally : Planes → Planes → ℕ → ℕ → ℕ → ℕ → ℕ
planes_tally a b x y x' y' = tally (differ_pixels a b x y x' y') (keep a b x y x' y')

abbrev frame_tally : ℕ → ℕ → ℤ → ℤ → List ℕ → List ℕ → List ℕ → List ℕ → Frame
frame_tally w h dx dy t1 e1 t2 e2 = with_partner w h dx dy (planes_tally (planes_of w h t1 e1) (planes_of w h t2 e2))

within_both : (n : ℕ) (z : ℤ) (f g : ℕ → ℕ) → within n z (both f g) ≡ tally (within n z f) (within n z g)
unfolding within
within_both n (pos k) f g = gated (ltb k n)
  where
    gated : (t : Bool) → gate t (both f g k) ≡ tally (gate t (f k)) (gate t (g k))
    gated true = refl
    gated false = refl
within_both n (negsuc k) f g = refl

partner-both : (w h : ℕ) (dx dy : ℤ) (f g : ℕ → ℕ → ℕ → ℕ → ℕ) (x y : ℕ)
    → with_partner w h dx dy (λ x y x' y'. tally (f x y x' y') (g x y x' y')) x y ≡ tally (with_partner w h dx dy f x y) (with_partner w h dx dy g x y)
unfolding with_partner
partner-both w h dx dy f g x y =
    (λ j. within w (pos x -ℤ dx) (λ x'. within_both h (pos y -ℤ dy) (f x y x') (g x y x') j))
    ∙ within_both w (pos x -ℤ dx) (λ x'. within h (pos y -ℤ dy) (f x y x')) (λ x'. within h (pos y -ℤ dy) (g x y x'))

module _ (w h : ℕ) (dx dy : ℤ) (t1 e1 t2 e2 : List ℕ) (bx : SFits w32 dx) (by : SFits w32 dy) where
  -- a pixel whose partner lies in row z, if anywhere
  pixel-paired : (x y z : ℕ) → y < h → z < h → bias_of dy + z ≡ bias + y
      → frame_tally w h dx dy t1 e1 t2 e2 x y ≡ row_tally t1 e1 t2 e2 (y * row_words w) (z * row_words w) w (bias_of dx) x
  unfolding with_partner differ_pixels keep row_differ row_kept moved_bit disagree both_kept
  pixel-paired x y z l m e =
      (λ j. within w (pos x -ℤ dx) (λ x'. row x' j))
      ∙ within-back w x dx (λ x'. pixel x') bx
      ∙ ⊎_elim under over (order (bias + x) (bias_of dx))
    where
      n : ℕ
      n = row_words w

      pixel : ℕ → ℕ
      pixel x' = pixel_tally (bit_at w h t1 x y) (bit_at w h e1 x y) (bit_at w h t2 x' z) (bit_at w h e2 x' z)

      partner : ℕ → ℕ → ℕ
      partner x' y' = pixel_tally (bit_at w h t1 x y) (bit_at w h e1 x y) (bit_at w h t2 x' y') (bit_at w h e2 x' y')

      row : (x' : ℕ) → within h (pos y -ℤ dy) (λ y'. partner x' y') ≡ pixel x'
      row x' =
          within-back h y dy (λ y'. partner x' y') by
          ∙ back_at (λ y'. gate (ltb y' h) (partner x' y')) (bias_of dy) z (bias + y) e
          ∙ gate-lt z h (pixel x') m

      under : bias + x < bias_of dx → back (λ x'. gate (ltb x' w) (pixel x')) (bias_of dx) (bias + x)
          ≡ row_tally t1 e1 t2 e2 (y * n) (z * n) w (bias_of dx) x
      under g =
          back-under (λ x'. gate (ltb x' w) (pixel x')) (bias_of dx) (bias + x) g
          ∙ sym (ap (λ (v : ℕ). pixel_tally (row_bit t1 (y * n) w x) (row_bit e1 (y * n) w x) (moved_bit t2 (z * n) w (bias_of dx) x) v)
          (back-under (row_bit e2 (z * n) w) (bias_of dx) (bias + x) g)
          ∙ tally-right (row_bit t1 (y * n) w x) (row_bit e1 (y * n) w x) (moved_bit t2 (z * n) w (bias_of dx) x))

      over : bias_of dx ≤ bias + x → back (λ x'. gate (ltb x' w) (pixel x')) (bias_of dx) (bias + x)
          ≡ row_tally t1 e1 t2 e2 (y * n) (z * n) w (bias_of dx) x
      over g =
          let x' : ℕ = bias + x - bias_of dx in
          let s : bias_of dx + x' ≡ bias + x = omega arith in
          back_at (λ v. gate (ltb v w) (pixel v)) (bias_of dx) x' (bias + x) s
          ∙ ⊎_elim (inside x') (past x') (order x' w)
          ∙ (λ j. pixel_tally (row_bit t1 (y * n) w x) (row_bit e1 (y * n) w x)
          (sym (back_at (row_bit t2 (z * n) w) (bias_of dx) x' (bias + x) s) j) (sym (back_at (row_bit e2 (z * n) w) (bias_of dx) x' (bias + x) s) j))
        where
          inside : (x' : ℕ) → x' < w → gate (ltb x' w) (pixel x')
              ≡ pixel_tally (row_bit t1 (y * n) w x) (row_bit e1 (y * n) w x) (row_bit t2 (z * n) w x') (row_bit e2 (z * n) w x')
          inside x' k =
              gate-lt x' w (pixel x') k
              ∙ (λ j. pixel_tally (bit_at-in w h t1 x y l j) (bit_at-in w h e1 x y l j) (bit_at-in w h t2 x' z m j) (bit_at-in w h e2 x' z m j))

          past : (x' : ℕ) → w ≤ x' → gate (ltb x' w) (pixel x')
              ≡ pixel_tally (row_bit t1 (y * n) w x) (row_bit e1 (y * n) w x) (row_bit t2 (z * n) w x') (row_bit e2 (z * n) w x')
          past x' k =
              gate-ge x' w (pixel x') k
              ∙ sym (ap (λ (v : ℕ). pixel_tally (row_bit t1 (y * n) w x) (row_bit e1 (y * n) w x) (row_bit t2 (z * n) w x') v) (row-past e2 (z * n) w x' k)
              ∙ tally-right (row_bit t1 (y * n) w x) (row_bit e1 (y * n) w x) (row_bit t2 (z * n) w x'))

  -- a pixel with no partner row
  pixel-alone : (x y : ℕ) → ((g : ℕ → ℕ) → within h (pos y -ℤ dy) g ≡ 0) → frame_tally w h dx dy t1 e1 t2 e2 x y ≡ 0
  unfolding with_partner
  pixel-alone x y l =
      (λ j. within w (pos x -ℤ dx) (λ x'. l (λ y'. planes_tally (planes_of w h t1 e1) (planes_of w h t2 e2) x y x' y') j))
      ∙ within-zero w (pos x -ℤ dx)

  -- a row of the frame
  line-is : (y : ℕ) → y < h → line_tally t1 e1 t2 e2 w h (bias_of dx) (bias_of dy) y ≡ row_sum w (frame_tally w h dx dy t1 e1 t2 e2) y
  unfolding line_tally
  line-is y l = ⊎_elim under over (order (bias + y) (bias_of dy))
    where
      row : ℕ → ℕ
      row z = sum w (row_tally t1 e1 t2 e2 (y * row_words w) (z * row_words w) w (bias_of dx))

      under : bias + y < bias_of dy → back (λ z. gate (ltb z h) (row z)) (bias_of dy) (bias + y) ≡ row_sum w (frame_tally w h dx dy t1 e1 t2 e2) y
      under g =
          back-under (λ z. gate (ltb z h) (row z)) (bias_of dy) (bias + y) g
          ∙ sym (sum-zero w (λ x. frame_tally w h dx dy t1 e1 t2 e2 x y)
          (λ x k. pixel-alone x y (λ f. within-back h y dy f by ∙ back-under (λ z. gate (ltb z h) (f z)) (bias_of dy) (bias + y) g)))

      over : bias_of dy ≤ bias + y → back (λ z. gate (ltb z h) (row z)) (bias_of dy) (bias + y) ≡ row_sum w (frame_tally w h dx dy t1 e1 t2 e2) y
      over g =
          let z : ℕ = bias + y - bias_of dy in
          let s : bias_of dy + z ≡ bias + y = omega arith in
          back_at (λ v. gate (ltb v h) (row v)) (bias_of dy) z (bias + y) s ∙ ⊎_elim (inside z s) (past z s) (order z h)
        where
          inside : (z : ℕ) → bias_of dy + z ≡ bias + y → z < h → gate (ltb z h) (row z) ≡ row_sum w (frame_tally w h dx dy t1 e1 t2 e2) y
          inside z s k =
              gate-lt z h (row z) k
              ∙ sum-ext w (row_tally t1 e1 t2 e2 (y * row_words w) (z * row_words w) w (bias_of dx)) (λ x. frame_tally w h dx dy t1 e1 t2 e2 x y)
              (λ x m. sym (pixel-paired x y z l k s))

          past : (z : ℕ) → bias_of dy + z ≡ bias + y → h ≤ z → gate (ltb z h) (row z) ≡ row_sum w (frame_tally w h dx dy t1 e1 t2 e2) y
          past z s k =
              gate-ge z h (row z) k
              ∙ sym (sum-zero w (λ x. frame_tally w h dx dy t1 e1 t2 e2 x y)
              (λ x m. pixel-alone x y (λ f. within-back h y dy f by ∙ back_at (λ v. gate (ltb v h) (f v)) (bias_of dy) z (bias + y) s ∙ gate-ge z h (f z) k)))

  -- a tally over the frame is that of both counts
  frame-both : sum_pixels w h (frame_tally w h dx dy t1 e1 t2 e2)
      ≡ tally (difference w h dx dy (planes_of w h t1 e1) (planes_of w h t2 e2)) (compared w h dx dy (planes_of w h t1 e1) (planes_of w h t2 e2))
  unfolding difference compared
  frame-both =
      let a = planes_of w h t1 e1 in
      let b = planes_of w h t2 e2 in
      pixels-ext w h (frame_tally w h dx dy t1 e1 t2 e2) (λ x y. tally (with_partner w h dx dy (differ_pixels a b) x y) (with_partner w h dx dy (keep a b) x y))
      (λ x y k l. partner-both w h dx dy (differ_pixels a b) (keep a b) x y)
      ∙ pixels-both w h (with_partner w h dx dy (differ_pixels a b)) (with_partner w h dx dy (keep a b))

  -- the rows make up the frame
  pub frame-whole : (w' d up r : ℕ) → w' ≡ w → d ≡ bias_of dx → up ≡ bias_of dy → r ≡ sum h (line_tally t1 e1 t2 e2 w' h d up)
      → r ≡ tally (difference w h dx dy (planes_of w h t1 e1) (planes_of w h t2 e2)) (compared w h dx dy (planes_of w h t1 e1) (planes_of w h t2 e2))
  unfolding sum_pixels
  frame-whole w' d up r p q o e =
      e
      ∙ (λ j. sum h (line_tally t1 e1 t2 e2 (p j) h (q j) (o j)))
      ∙ sum-ext h (line_tally t1 e1 t2 e2 w h (bias_of dx) (bias_of dy)) (row_sum w (frame_tally w h dx dy t1 e1 t2 e2)) line-is
      ∙ frame-both

-- a row in three parts
pub row-parts : (f : ℕ → ℕ) (w n first end a b c : ℕ) → n ≡ row_words w → ((x : ℕ) → w ≤ x → f x ≡ 0)
    → Adds f 0 first a → Adds f first end b → Adds f end n c → a + b + c ≡ sum w f
row-parts f w n first end a b c e z p q r =
    row-sum f w (a + b + c) z (rw e at (adds-more f 0 end n (a + b) c (adds-more f 0 first end a b p q) r))

-- the three ways of a row
module _ (t1 e1 t2 e2 : List ℕ) (w h d up y : ℕ) where
  pub line_before : bias + y < up → line_tally t1 e1 t2 e2 w h d up y ≡ 0
  unfolding line_tally
  line_before l = back-under (λ z. gate (ltb z h) (sum w (row_tally t1 e1 t2 e2 (y * row_words w) (z * row_words w) w d))) up (bias + y) l

  line_at : (z : ℕ) → up + z ≡ bias + y
      → line_tally t1 e1 t2 e2 w h d up y ≡ gate (ltb z h) (sum w (row_tally t1 e1 t2 e2 (y * row_words w) (z * row_words w) w d))
  unfolding line_tally
  line_at z e = back_at (λ v. gate (ltb v h) (sum w (row_tally t1 e1 t2 e2 (y * row_words w) (v * row_words w) w d))) up z (bias + y) e

  pub line-past : (z : ℕ) → up + z ≡ bias + y → h ≤ z → line_tally t1 e1 t2 e2 w h d up y ≡ 0
  line-past z e l = line_at z e ∙ gate-ge z h (sum w (row_tally t1 e1 t2 e2 (y * row_words w) (z * row_words w) w d)) l

  pub line-paired : (z n : ℕ) → up + z ≡ bias + y → z < h → n ≡ row_words w
      → sum w (row_tally t1 e1 t2 e2 (y * n) (z * n) w d) ≡ line_tally t1 e1 t2 e2 w h d up y
  line-paired z n e l m =
      ap (λ (v : ℕ). sum w (row_tally t1 e1 t2 e2 (y * v) (z * v) w d)) m
      ∙ sym (line_at z e ∙ gate-lt z h (sum w (row_tally t1 e1 t2 e2 (y * row_words w) (z * row_words w) w d)) l)

  pub line-le : w ≤ 4096 → line_tally t1 e1 t2 e2 w h d up y ≤ 4096 * 4294967297
  unfolding line_tally back
  line-le l =
      let z : ℕ = bias + y - up in
      let row : ℕ → ℕ = row_tally t1 e1 t2 e2 (y * row_words w) (z * row_words w) w d in
      let a = gate-le (leb up (bias + y)) (gate (ltb z h) (sum w row)) in
      let b = gate-le (ltb z h) (sum w row) in
      let c = tally-le w row (row_tally-le t1 e1 t2 e2 (y * row_words w) (z * row_words w) w d) in
      omega arith
