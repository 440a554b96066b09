-- Laws of the words that flags make, of rows of them and of whole planes.
use mathlib.Core.Path.{◌≡◌, refl, sym, ap, ◌∙◌}
use mathlib.Core.Bool.{◌||◌}
use mathlib.Core.Logic.{⊎_elim}
use mathlib.Core.List.{List}
use Prim.Native.Nat.{ℕ, ◌+◌, ◌*◌, ◌-◌, ◌/◌, ◌≤◌, ◌<◌, min, max}
use native.Mathlib.Nat.{add_assoc}
use native.Mathlib.Omega.{arith}
use lib.Dec.{ltb}
use lib.ListN.{length, get_or, set}
use borrow.Author.Tests.{lt-ltb, le-ltb}
use Rattle.rules.specs.Sums.{gate, one_if}
use Rattle.rules.specs.Frames.{Frame, frame_of, written_over}
use Rattle.rules.specs.Planes.{threshold_bit, distance, exclusion_bit, bits_by}
use Rattle.rules.specs.Bitmaps.{row_words, bit, word, word_of, packed}
use Rattle.rules.specs.Buffers.{RowAt, FrameAt}
use Rattle.rules.proofs.SumLaws.{order}
use Rattle.rules.proofs.FrameLaws.{row_more, frame-more, frame-written, row_fits}
use Rattle.words.proofs.BitLaws.{word-ext}
use Rattle.flags.specs.Flags.{outside_bit, flag_at}
use Rattle.flags.proofs.FlagLaws.{flag-lt, flag-in, flag-past}
use Rattle.gather.specs.Gathers.{by_columns, turned_at}
use Rattle.gather.proofs.GatherLaws.{columns-turned}
use Rattle.pack.specs.Outside.{outside_plane, outside_word, columns_word}

-- "Threshold bit: 1 where grey > t."
pub threshold-outside : (t v : ℕ) → threshold_bit t v ≡ outside_bit 0 t v
unfolding threshold_bit outside_bit
threshold-outside t v = sym (ap (λ b. one_if (b || ltb t v)) (le-ltb v 0 (omega arith)))

-- "Exclusion bit: 0 where |grey − t| ≤ T, else 1." An end of the interval past the grey values of a byte is cut.
pub exclusion-outside : (t tolerance v : ℕ) → v ≤ 255
    → exclusion_bit t tolerance v ≡ outside_bit (t - tolerance) (min 255 (t + tolerance)) v
unfolding exclusion_bit distance outside_bit
exclusion-outside t tolerance v l =
    ⊎_elim below (λ (m : t - tolerance ≤ v). ⊎_elim (above m) (within m) (order (min 255 (t + tolerance)) v)) (order v (t - tolerance))
  where
    below : v < t - tolerance → exclusion_bit t tolerance v ≡ outside_bit (t - tolerance) (min 255 (t + tolerance)) v
    below m = simp (lt-ltb tolerance (max v t - min v t) (omega arith), lt-ltb v (t - tolerance) m)

    above : t - tolerance ≤ v → min 255 (t + tolerance) < v → exclusion_bit t tolerance v ≡ outside_bit (t - tolerance) (min 255 (t + tolerance)) v
    above m n =
        simp (
          lt-ltb tolerance (max v t - min v t) (omega arith),
          le-ltb v (t - tolerance) m,
          lt-ltb (min 255 (t + tolerance)) v n,
        )

    within : t - tolerance ≤ v → v ≤ min 255 (t + tolerance) → exclusion_bit t tolerance v ≡ outside_bit (t - tolerance) (min 255 (t + tolerance)) v
    within m n =
        simp (
          le-ltb tolerance (max v t - min v t) (omega arith),
          le-ltb v (t - tolerance) m,
          le-ltb (min 255 (t + tolerance)) v n,
        )

-- the planes of a grey frame
pub threshold-plane : (t w : ℕ) (grey : List ℕ) → bits_by (threshold_bit t) (frame_of w grey) ≡ outside_plane 0 t w grey
unfolding outside_plane
threshold-plane t w grey = λ i x y. threshold-outside t (frame_of w grey x y) i

pub exclusion-plane : (t tolerance w : ℕ) (grey : List ℕ) → ((i : ℕ) → get_or grey i 0 < 256)
    → bits_by (exclusion_bit t tolerance) (frame_of w grey) ≡ outside_plane (t - tolerance) (min 255 (t + tolerance)) w grey
unfolding outside_plane frame_of
exclusion-plane t tolerance w grey bytes =
    λ i x y. exclusion-outside t tolerance (frame_of w grey x y) (let b = bytes (y * w + x) in omega arith) i

-- the words of a row, as a sum that omega reads
pub row-words : (w : ℕ) → row_words w ≡ (w + 63) / 64
unfolding row_words
row-words w = refl

-- word k of a row, from its flags: 64 pixels, or what is left of the row
word-of-flags : (lo hi : ℕ) (grey : List ℕ) (from w k n : ℕ) → n ≡ min 64 (w - k * 64)
    → word (flag_at lo hi grey (from + k * 64) n) ≡ outside_word lo hi grey from w k
unfolding outside_word word_of
word-of-flags lo hi grey from w k n e =
    word-ext (flag_at lo hi grey (from + k * 64) n) (λ i. gate (ltb (k * 64 + i) w) (outside_bit lo hi (get_or grey (from + (k * 64 + i)) 0))) same
  where
    same : (i : ℕ) → i < 64 → flag_at lo hi grey (from + k * 64) n i ≡ gate (ltb (k * 64 + i) w) (outside_bit lo hi (get_or grey (from + (k * 64 + i)) 0))
    same i l = ⊎_elim (λ (m : i < n). inside m) (λ (m : n ≤ i). past m) (order i n)
      where
        inside : i < n → flag_at lo hi grey (from + k * 64) n i ≡ gate (ltb (k * 64 + i) w) (outside_bit lo hi (get_or grey (from + (k * 64 + i)) 0))
        inside m =
            flag-in lo hi grey (from + k * 64) n i m
            ∙ ap (λ (j : ℕ). outside_bit lo hi (get_or grey j 0)) (add_assoc from (k * 64) i)
            ∙ sym (ap (λ t. gate t (outside_bit lo hi (get_or grey (from + (k * 64 + i)) 0))) (lt-ltb (k * 64 + i) w (omega arith)))

        past : n ≤ i → flag_at lo hi grey (from + k * 64) n i ≡ gate (ltb (k * 64 + i) w) (outside_bit lo hi (get_or grey (from + (k * 64 + i)) 0))
        past m =
            flag-past lo hi grey (from + k * 64) n i m
            ∙ sym (ap (λ t. gate t (outside_bit lo hi (get_or grey (from + (k * 64 + i)) 0))) (le-ltb (k * 64 + i) w (omega arith)))

-- one word more of a row by columns
pub columns-word : (lo hi : ℕ) (grey : List ℕ) (from w to k n : ℕ) (before after : List ℕ) (v : ℕ) → to + k < length before
    → n ≡ min 64 (w - k * 64) → v ≡ by_columns (flag_at lo hi grey (from + k * 64) n)
    → RowAt to (columns_word lo hi grey from w) before k after
    → RowAt to (columns_word lo hi grey from w) before (k + 1) (set after (to + k) v)
unfolding columns_word
columns-word lo hi grey from w to k n before after v room e d r =
    row_more to (columns_word lo hi grey from w) before k after v room r (d ∙ ap (λ (m : ℕ). by_columns (flag_at lo hi grey (from + k * 64) m)) e)

-- a row by columns, turned
pub row-turned : (lo hi : ℕ) (grey : List ℕ) (from w to n : ℕ) (before mid after : List ℕ)
    → RowAt to (columns_word lo hi grey from w) before n mid → RowAt to (turned_at mid to) mid n after
    → RowAt to (outside_word lo hi grey from w) before n after
unfolding columns_word turned_at
row-turned lo hi grey from w to n before mid after c t = record {
  len = t.len ∙ c.len;
  under = λ m l. t.under m l ∙ c.under m l;
  done = λ k l.
      let f : ℕ → ℕ = flag_at lo hi grey (from + k * 64) (min 64 (w - k * 64)) in
      t.done k l
      ∙ ap (λ (v : ℕ). by_columns (bit v)) (c.done k l)
      ∙ columns-turned f (λ i m. flag-lt lo hi grey (from + k * 64) (min 64 (w - k * 64)) i)
      ∙ word-of-flags lo hi grey from w k (min 64 (w - k * 64)) refl;
  over = λ m l. t.over m l ∙ c.over m l;
}

-- The row that begins at place y * w is row y of the frame: one row more of its words from place `to` on.
pub frame_row : (lo hi w y : ℕ) (grey : List ℕ) (to place : ℕ) (before mid after : List ℕ) → place ≡ to + y * row_words w
    → FrameAt to (row_words w) (word_of w (outside_plane lo hi w grey)) before y mid
    → RowAt place (outside_word lo hi grey (y * w) w) mid (row_words w) after
    → FrameAt to (row_words w) (word_of w (outside_plane lo hi w grey)) before (y + 1) after
unfolding outside_word outside_plane word_of frame_of
frame_row lo hi w y grey to place before mid after e a r =
    frame-more to (row_words w) (word_of w (outside_plane lo hi w grey)) before y mid after a (rw e at r)

-- the place of row y of a bitmap, and its end
pub row-place : (w h n y : ℕ) → n ≡ row_words w → y < h → (y * n ≡ 0 + y * row_words w) × (y * n + row_words w ≤ row_words w * h)
row-place w h n y e l = rw e (omega (arith, row_fits (row_words w) h y l))

-- a whole bitmap written, by another plane with the same bits
pub packed-plane : (w h : ℕ) (f g : Frame) (before after : List ℕ) → f ≡ g → row_words w * h ≤ length before
    → FrameAt 0 (row_words w) (word_of w g) before h after → after ≡ written_over (packed w h f) before
unfolding packed
packed-plane w h f g before after e room a =
    frame-written (row_words w) h (word_of w g) before after room a ∙ ap (λ (p : Frame). written_over (packed w h p) before) (sym e)
