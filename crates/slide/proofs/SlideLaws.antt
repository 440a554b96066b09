-- The moved rows, in the second part of the memory, against document 01's shift.
use mathlib.Core.Path.{◌≡◌, sym, ap, ◌∙◌}
use mathlib.Core.List.{List, ◌++◌}
use Prim.Native.Nat.{ℕ, ◌+◌, ◌*◌, ◌-◌, ◌/◌, ◌%◌, ◌≤◌, ◌<◌}
use native.Mathlib.Nat.{add-zero, zero-add}
use native.Mathlib.Omega.{arith}
use lib.Dec.{ltb}
use lib.ListN.{length, get_or, drop, length-append, get_or-append}
use lib.Seq.{get_or-append-add, get_or-drop}
use lib.IntN.{ℤ, pos, ◌-ℤ◌}
use mir.Syntax.{w32}
use mir.Val.{SFits}
use Rattle.rules.specs.Sums.{gate}
use Rattle.rules.specs.Frames.{Frame}
use Rattle.rules.specs.Planes.{within, shifted}
use Rattle.rules.specs.Bitmaps.{bit, bit_at, row_words, word_of}
use Rattle.rules.specs.Buffers.{FrameAt}
use Rattle.words.specs.Rows.{row_bit, bias_of}
use Rattle.words.proofs.MoveLaws.{gate-lt}
use Rattle.words.specs.declared.moves.Move.{Move}
use Rattle.words.specs.MovedRows.{moved_word}
use Rattle.words.proofs.MovedRowLaws.{moved_same, shifted_row}
use Rattle.shift_words.specs.MovedParts.{moved_rows}
use Rattle.shift_words.proofs.MovedPartLaws.{rows_under}

-- the bitmap moved to the right by dx, as document 01 has it
abbrev pub slid_bitmap : ℕ → ℕ → ℤ → List ℕ → Frame
slid_bitmap w h dx words = word_of w (shifted w h dx (pos 0) (bit_at w h words))

row_drop : (words : List ℕ) (from base w x : ℕ) → row_bit words (from + base) w x ≡ row_bit (drop from words) base w x
unfolding row_bit
row_drop words from base w x =
    let e : from + base + x / 64 ≡ from + (base + x / 64) = omega arith in
    ap (λ (v : ℕ). gate (ltb x w) (bit v (x % 64))) (ap (λ (j : ℕ). get_or words j 0) e ∙ sym (get_or-drop from words (base + x / 64) 0))

pub within-here : (n y : ℕ) (f : ℕ → ℕ) → y < n → within n (pos y -ℤ pos 0) f ≡ f y
unfolding within
within-here n y f l = ap (λ (z : ℕ). gate (ltb z n) (f z)) (add-zero y) ∙ gate-lt y n (f y) l

-- The rows that end before place `to` are the same in the memory's first part, and what is written at the beginning of the rest is written there.
pub frame-slid : (before front rest after : List ℕ) (from : ℕ) (m : Move) (w h to : ℕ) (dx : ℤ) → SFits w32 dx
    → m.w ≡ w → m.q * 64 + m.r ≡ bias_of dx → from + m.n * h ≤ to → before ≡ front ++ rest → length front ≡ to
    → FrameAt 0 m.n (moved_rows front from m) rest h after
    → FrameAt to m.n (slid_bitmap w h dx (drop from before)) before h (front ++ after)
frame-slid before front rest after from m w h to dx b ew ed apart parts at a = record {
  len = length-append front after ∙ ap (λ (k : ℕ). length front + k) a.len ∙ sym (length-append front rest) ∙ ap length (sym parts);
  under = λ i l. get_or-append front after 0 i (omega arith) ∙ sym (get_or-append front rest 0 i (omega arith)) ∙ ap (λ (l : List ℕ). get_or l i 0) (sym parts);
  done = λ x z g j. past after (z * n + x) ∙ ap (λ (i : ℕ). get_or after i 0) (sym (zero-add (z * n + x))) ∙ a.done x z g j ∙ bitmap x z j;
  over = λ i l. let e : to + (i - to) ≡ i = omega arith in
      rw (← e) (past after (i - to) ∙ a.over (i - to) (omega arith) ∙ sym (past rest (i - to)) ∙ ap (λ (l : List ℕ). get_or l (to + (i - to)) 0) (sym parts));
}
  where
    n : ℕ
    n = m.n

    -- a place of what stands behind the first part
    past : (behind : List ℕ) (i : ℕ) → get_or (front ++ behind) (to + i) 0 ≡ get_or behind i 0
    past behind i = ap (λ (k : ℕ). get_or (front ++ behind) (k + i) 0) (sym at) ∙ get_or-append-add front behind i 0

    same : (i : ℕ) → i < to → get_or front i 0 ≡ get_or before i 0
    same i l = sym (get_or-append front rest 0 i (omega arith)) ∙ ap (λ (l : List ℕ). get_or l i 0) (sym parts)

    bitmap : (x z : ℕ) → z < h → moved_rows front from m x z ≡ slid_bitmap w h dx (drop from before) x z
    bitmap x z j =
        let e : n ≡ row_words w = m.moves.row ∙ ap row_words ew in
        rows_under before front from m h to x z m.moves.row apart j same
        ∙ (λ i. moved_word before (from + z * e i) (ew i) m.q m.r x)
        ∙ moved_same before (drop from before) (from + z * row_words w) (z * row_words w) w m.q m.r x (row_drop before from (z * row_words w) w)
        ∙ shifted_row (drop from before) w h z z dx (pos 0) m.q m.r b m.moves.bits ed j (λ f. within-here h z f j) x
