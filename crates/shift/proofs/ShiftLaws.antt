-- All rows of a shifted bitmap against document 01's shift.
use mathlib.Core.Path.{◌≡◌, sym, ap, subst, ◌∙◌}
use mathlib.Core.Logic.{⊎_elim}
use mathlib.Core.List.{List}
use Prim.Native.Nat.{ℕ, ◌+◌, ◌*◌, ◌-◌, ◌^◌, ◌≤◌, ◌<◌}
use native.Mathlib.Nat.{zero-mul}
use lib.Dec.{ltb}
use lib.ListN.{length}
use lib.IntN.{ℤ, pos, ◌-ℤ◌}
use mir.Syntax.{w32}
use mir.Val.{SFits}
use Rattle.rules.specs.Sums.{gate}
use Rattle.rules.specs.Frames.{Frame, written_over}
use Rattle.rules.specs.Planes.{within, shifted}
use Rattle.rules.specs.Bitmaps.{bit_at, row_words, word, word_of, packed}
use Rattle.rules.specs.Buffers.{FrameAt}
use Rattle.rules.proofs.SumLaws.{order, sum-zero, gate-zero}
use Rattle.rules.proofs.FrameLaws.{frame-written}
use Rattle.words.specs.declared.moves.Move.{Move}
use Rattle.words.specs.Rows.{bias, bias_of}
use Rattle.words.specs.MovedRows.{moved_word}
use Rattle.words.proofs.MoveLaws.{within-zero, within-before, within-at, within-past}
use Rattle.words.proofs.MovedRowLaws.{shifted_row}
use Rattle.shift_rows.specs.ShiftPlaces.{placed_rows}
use Rattle.shift_rows.proofs.PlacedRowLaws.{row_before, row_inside, row-past}

word-zero : (w : ℕ) (f : Frame) (k y : ℕ) → ((x : ℕ) → f x y ≡ 0) → word_of w f k y ≡ 0
unfolding word_of word
word-zero w f k y e =
    sum-zero 64 (λ i. gate (ltb (k * 64 + i) w) (f (k * 64 + i) y) * 2 ^ i)
    (λ i l. ap (λ (a : ℕ). gate (ltb (k * 64 + i) w) a * 2 ^ i) (e (k * 64 + i)) ∙ ap (λ (a : ℕ). a * 2 ^ i) (gate-zero (ltb (k * 64 + i) w)) ∙ zero-mul (2 ^ i))

module _ (src : List ℕ) (w h : ℕ) (dx dy : ℤ) (bx : SFits w32 dx) (by : SFits w32 dy) where
  -- a row that has no source row
  shifted_none : (y : ℕ) → ((f : ℕ → ℕ) → within h (pos y -ℤ dy) f ≡ 0) → (k : ℕ) → word_of w (shifted w h dx dy (bit_at w h src)) k y ≡ 0
  unfolding shifted
  shifted_none y e k =
      word-zero w (shifted w h dx dy (bit_at w h src)) k y
      (λ x. (λ i. within w (pos x -ℤ dx) (λ x'. e (λ y'. bit_at w h src x' y') i)) ∙ within-zero w (pos x -ℤ dx))

  -- the move is dx, counted from the bias, in rows of w pixels
  module _ (m : Move) (ew : m.w ≡ w) (ed : m.q * 64 + m.r ≡ bias_of dx) where
    words : m.n ≡ row_words w
    words = m.moves.row ∙ ap row_words ew

    rows-shifted : (k y : ℕ) → placed_rows src h m (bias_of dy) k y ≡ word_of w (shifted w h dx dy (bit_at w h src)) k y
    rows-shifted k y = ⊎_elim before (λ (l : bias_of dy ≤ bias + y). ⊎_elim (inside l) (past l) (order (bias + y - bias_of dy) h)) (order (bias + y) (bias_of dy))
      where
        before : bias + y < bias_of dy → placed_rows src h m (bias_of dy) k y ≡ word_of w (shifted w h dx dy (bit_at w h src)) k y
        before l = sym (row_before src h m (bias_of dy) y l k) ∙ sym (shifted_none y (λ f. within-before h y dy f by l) k)

        inside : bias_of dy ≤ bias + y → bias + y - bias_of dy < h → placed_rows src h m (bias_of dy) k y ≡ word_of w (shifted w h dx dy (bit_at w h src)) k y
        inside l i =
            sym (row_inside src h m (bias_of dy) y l i k)
            ∙ (λ j. moved_word src ((bias + y - bias_of dy) * words j) (ew j) m.q m.r k)
            ∙ shifted_row src w h y (bias + y - bias_of dy) dx dy m.q m.r bx m.moves.bits ed i (λ f. within-at h y dy f by l i) k

        past : bias_of dy ≤ bias + y → h ≤ bias + y - bias_of dy → placed_rows src h m (bias_of dy) k y ≡ word_of w (shifted w h dx dy (bit_at w h src)) k y
        past l i = sym (row-past src h m (bias_of dy) y l i k) ∙ sym (shifted_none y (λ f. within-past h y dy f by l i) k)

    -- all rows written from the biased moves are the shifted bitmap
    pub shifted-written : (down : ℕ) (before after : List ℕ) → down ≡ bias_of dy → row_words w * h ≤ length before
        → FrameAt 0 m.n (placed_rows src h m down) before h after
        → after ≡ written_over (packed w h (shifted w h dx dy (bit_at w h src))) before
    unfolding packed
    shifted-written down before after e room a =
        frame-written (row_words w) h (word_of w (shifted w h dx dy (bit_at w h src))) before after room
        (subst (λ (f : Frame). FrameAt 0 (row_words w) f before h after) (λ i k y. rows-shifted k y i)
        (subst (λ (n : ℕ). FrameAt 0 n (placed_rows src h m (bias_of dy)) before h after) words (rw e at a)))
