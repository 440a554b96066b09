-- Laws of the moved frame: a span against document 01's shift, and rows written run by run.
use mathlib.Core.Path.{◌≡◌, sym, ap, subst, ◌∙◌}
use mathlib.Core.Bool.{◌&&◌}
use mathlib.Core.Logic.{⊎_elim}
use mathlib.Core.List.{List}
use Prim.Native.Nat.{ℕ, ◌+◌, ◌*◌, ◌-◌, ◌/◌, ◌%◌, ◌≤◌, ◌<◌, min}
use native.Mathlib.Nat.{mul_assoc}
use native.Mathlib.Omega.{arith}
use lib.Dec.{leb, ltb}
use lib.ListN.{length, get_or, take, drop, replicate}
use lib.IntN.{ℤ, pos, ◌-ℤ◌}
use borrow.Author.Rules.{rules}
use borrow.Rule.Slice.PartMut.{put_mid}
use Rattle.std.proofs.lemmas.List.{places, length-take-le, length-drop, length-replicate, get_or-replicate, get_or-take, get_or-drop}
use mir.Syntax.{w32}
use mir.Val.{SFits}
use borrow.Author.Tests.{lt-ltb, le-ltb, le-leb, lt-leb, ltb-false}
use Rattle.rules.specs.Frames.{rows, written_over}
use Rattle.rules.specs.Planes.{within, shifted}
use Rattle.rules.specs.Refusals.{◌when◌, ◌or_else◌, bad_size, wrong_length, short, raster_length}
use Rattle.rules.proofs.SumLaws.{order, gate-zero}
use Rattle.rules.proofs.RefusalLaws.{size_ok, when-no, or_else-no, length-is}
use Rattle.rules.specs.Buffers.{RowAt, FrameAt}
use Rattle.rules.proofs.FrameLaws.{row-ext, row_fits, frame-written}
use Rattle.words.specs.Rows.{bias, bias_of}
use Rattle.words.proofs.MoveLaws.{within-before, within-at, within-past}
use Rattle.moved.specs.declared.clipping.Span.{Span}
use Rattle.moved.specs.Moved.{channel, moved_byte, moved_refusal}
use Rattle.moved.specs.Spans.{laid, Inside, Clipped, laid_byte, placed_byte, zeros, bytes_from, Sized}

-- ---- a span

module _ (s : Span) (f : ℕ → ℕ) where
  laid-before : (x : ℕ) → x < s.to → laid s f x ≡ 0
  unfolding laid
  laid-before x l = rw (lt-leb s.to x l)

  laid-at : (x k : ℕ) → s.to + k ≡ x → k < s.count → laid s f x ≡ f (s.from + k)
  unfolding laid
  laid-at x k e l =
      let d : x - s.to ≡ k = omega arith in
      rw (le-leb s.to x (omega arith), lt-ltb x (s.to + s.count) (omega arith), d)

  laid-past : (x : ℕ) → s.to + s.count ≤ x → laid s f x ≡ 0
  unfolding laid
  laid-past x l = rw (le-leb s.to x (omega arith), le-ltb x (s.to + s.count) l)

laid-zero : (s : Span) (x : ℕ) → laid s zeros x ≡ 0
unfolding laid
laid-zero s x = gate-zero (leb s.to x && ltb x (s.to + s.count))

-- ---- the span of a move

module _ (n : ℕ) (d : ℤ) (b : SFits w32 d) (skip : ℕ) where
  abbrev leftward : Span
  leftward = record { to = 0; from = skip; count = n - skip }

  pub clipped-left : bias_of d < bias → skip ≡ min (bias - bias_of d) n → Clipped n d leftward
  clipped-left l e = record {
    inside = record { room = omega arith; source = omega arith };
    moved = λ x m f. ⊎_elim (stays x m f) (leaves x m f) (order x (n - skip));
  }
    where
      stays : (x : ℕ) → x < n → (f : ℕ → ℕ) → x < n - skip → within n (pos x -ℤ d) f ≡ laid leftward f x
      stays x m f k =
          let p : bias + x - bias_of d ≡ skip + x = omega arith in
          within-at n x d f b (omega arith) (omega arith) ∙ ap f p ∙ sym (laid-at leftward f x x (omega arith) k)

      leaves : (x : ℕ) → x < n → (f : ℕ → ℕ) → n - skip ≤ x → within n (pos x -ℤ d) f ≡ laid leftward f x
      leaves x m f k = within-past n x d f b (omega arith) (omega arith) ∙ sym (laid-past leftward f x (omega arith))

  abbrev rightward : Span
  rightward = record { to = skip; from = 0; count = n - skip }

  pub clipped-right : bias ≤ bias_of d → skip ≡ min (bias_of d - bias) n → Clipped n d rightward
  clipped-right l e = record {
    inside = record { room = omega arith; source = omega arith };
    moved = λ x m f. ⊎_elim (leaves x m f) (stays x m f) (order x skip);
  }
    where
      stays : (x : ℕ) → x < n → (f : ℕ → ℕ) → skip ≤ x → within n (pos x -ℤ d) f ≡ laid rightward f x
      stays x m f k =
          let p : bias + x - bias_of d ≡ 0 + (x - skip) = omega arith in
          within-at n x d f b (omega arith) (omega arith) ∙ ap f p ∙ sym (laid-at rightward f x (x - skip) (omega arith) (omega arith))

      leaves : (x : ℕ) → x < n → (f : ℕ → ℕ) → x < skip → within n (pos x -ℤ d) f ≡ laid rightward f x
      leaves x m f k = within-before n x d f b (omega arith) ∙ sym (laid-before rightward f x k)

pub moved-placed : (w h : ℕ) (dx dy : ℤ) (raster : List ℕ) (columns rows : Span) → Clipped w dx columns → Clipped h dy rows
    → (i y : ℕ) → i < 3 * w → y < h → placed_byte w raster columns rows i y ≡ moved_byte w h dx dy raster i y
unfolding moved_byte shifted placed_byte
moved-placed w h dx dy raster columns rows p q i y k l =
    sym
    ((λ j. within w (pos (i / 3) -ℤ dx) (λ x. q.moved y l (λ z. channel w raster (i % 3) x z) j))
    ∙ p.moved (i / 3) (omega arith) (λ x. laid rows (λ z. channel w raster (i % 3) x z) y))

-- ---- one row

-- a run that is written as a part of the buffer, whatever stands in it
pub row_put : (to n m : ℕ) (f : ℕ → ℕ) (before part : List ℕ) → to + n ≤ length before → m ≡ n → length part ≡ n
    → ((k : ℕ) → k < n → get_or part k 0 ≡ f k) → RowAt to f before n (put_mid to m before part)
row_put to n m f before part room same size is = record {
  len = search (rules, places);
  under = λ i l. search (rules, places);
  done = λ k l. search (rules, places) ∙ is k l;
  over = λ i l. search (rules, places);
}

-- by `fill`, where m is the part's length as the machine works it out
pub row_zeros : (to n m : ℕ) (before part : List ℕ) → to + n ≤ length before → m ≡ n
    → part ≡ replicate (length (take m (drop to before))) 0 → RowAt to zeros before n (put_mid to m before part)
row_zeros to n m before part room same is =
    let size : length (take m (drop to before)) ≡ n = length-take-le m (drop to before) (omega (arith, length-drop to before)) ∙ same in
    row_put to n m zeros before part room same (ap length is ∙ length-replicate _ 0 ∙ size) (λ k l. rw is (get_or-replicate (length (take m (drop to before))) k 0 0 (omega arith)))

-- by `copy_from_slice`, from place `from` of a raster on
pub row_copied : (to n m from k : ℕ) (before part raster : List ℕ) → to + n ≤ length before → m ≡ n → from + n ≤ length raster → k ≡ n
    → part ≡ take k (drop from raster) → RowAt to (bytes_from raster from) before n (put_mid to m before part)
unfolding bytes_from
row_copied to n m from k before part raster room same source whole is =
    row_put to n m (bytes_from raster from) before part room same
    (ap length is ∙ length-take-le k (drop from raster) (omega (arith, length-drop from raster)) ∙ whole)
    (λ i l. rw is (get_or-take k (drop from raster) i 0 (omega arith) ∙ get_or-drop from raster i 0))

-- two runs, one after the other
row-then : (to : ℕ) (f : ℕ → ℕ) (before mid after : List ℕ) (n m : ℕ) → RowAt to f before n mid
    → RowAt (to + n) (λ k. f (n + k)) mid m after → RowAt to f before (n + m) after
row-then to f before mid after n m a b = record {
  len = b.len ∙ a.len;
  under = λ i l. b.under i (omega arith) ∙ a.under i l;
  done = λ k l. ⊎_elim (old k) (new k l) (order k n);
  over = λ i l. b.over i (omega arith) ∙ a.over i (omega arith);
}
  where
    old : (k : ℕ) → k < n → get_or after (to + k) 0 ≡ f k
    old k l = b.under (to + k) (omega arith) ∙ a.done k l

    new : (k : ℕ) → k < n + m → n ≤ k → get_or after (to + k) 0 ≡ f k
    new k l p =
        let e : to + k ≡ to + n + (k - n) = omega arith in
        let d : n + (k - n) ≡ k = omega arith in
        ap (λ (j : ℕ). get_or after j 0) e ∙ b.done (k - n) (omega arith) ∙ ap f d

-- zeros, the columns that stay, zeros
module _ (w : ℕ) (raster : List ℕ) (s : Span) (z : ℕ) where
  byte-before : (i : ℕ) → i < 3 * s.to → zeros i ≡ laid_byte w raster s z i
  unfolding laid_byte
  byte-before i l = sym (laid-before s (λ x. channel w raster (i % 3) x z) (i / 3) (omega arith))

  byte_at : (i : ℕ) → i < 3 * s.count → bytes_from raster (3 * (z * w + s.from)) i ≡ laid_byte w raster s z (3 * s.to + i)
  unfolding laid_byte bytes_from channel
  byte_at i l =
      let e : 3 * (z * w + s.from) + i ≡ 3 * (z * w + (s.from + i / 3)) + (3 * s.to + i) % 3 = omega arith in
      ap (λ (j : ℕ). get_or raster j 0) e
      ∙ sym (laid-at s (λ x. channel w raster ((3 * s.to + i) % 3) x z) ((3 * s.to + i) / 3) (i / 3) (omega arith) (omega arith))

  byte_past : (i : ℕ) → zeros i ≡ laid_byte w raster s z (3 * s.to + 3 * s.count + i)
  unfolding laid_byte
  byte_past i =
      sym (laid-past s (λ x. channel w raster ((3 * s.to + 3 * s.count + i) % 3) x z) ((3 * s.to + 3 * s.count + i) / 3) (omega arith))

  pub row-of-runs : (to : ℕ) (before one two after : List ℕ) → Inside w s
      → RowAt to zeros before (3 * s.to) one
      → RowAt (to + 3 * s.to) (bytes_from raster (3 * (z * w + s.from))) one (3 * s.count) two
      → RowAt (to + 3 * s.to + 3 * s.count) zeros two (3 * w - 3 * s.to - 3 * s.count) after
      → RowAt to (laid_byte w raster s z) before (3 * w) after
  row-of-runs to before one two after inside a b c =
      let f = laid_byte w raster s z in
      let p = 3 * s.to in
      let q = 3 * s.count in
      let r = 3 * w - p - q in
      let e : p + q + r ≡ 3 * w = omega arith in
      let d : to + p + q ≡ to + (p + q) = omega arith in
      let first = row-ext to zeros f before one p byte-before a in
      let middle = row-ext (to + p) (bytes_from raster (3 * (z * w + s.from))) (λ k. f (p + k)) one two q byte_at b in
      let last = row-ext (to + p + q) zeros (λ k. f (p + q + k)) two after r (λ k l. byte_past k) c in
      subst (λ (n : ℕ). RowAt to f before n after) e
      (row-then to f before two after (p + q) r (row-then to f before one two p q first middle)
      (subst (λ (m : ℕ). RowAt m (λ k. f (p + q + k)) two r after) d last))

-- a row of bytes lies in its frame
pub bytes_fit : (w h y : ℕ) → y < h → y * (3 * w) + 3 * w ≤ 3 * (w * h)
bytes_fit w h y l = let a = row_fits (3 * w) h y l in let b = mul_assoc 3 w h in omega arith

-- ---- all rows: a row's source lies above the frame, in it or below it

module _ (w : ℕ) (raster : List ℕ) (columns rows : Span) (y : ℕ) where
  none : ((f : ℕ → ℕ) → laid rows f y ≡ 0) → (i : ℕ) → zeros i ≡ placed_byte w raster columns rows i y
  unfolding placed_byte
  none e i = sym ((λ j. laid columns (λ x. e (λ z. channel w raster (i % 3) x z) j) (i / 3)) ∙ laid-zero columns (i / 3))

  pub row-above : y < rows.to → (i : ℕ) → zeros i ≡ placed_byte w raster columns rows i y
  row-above l = none (λ f. laid-before rows f y l)

  pub row_from : rows.to ≤ y → y - rows.to < rows.count
      → (i : ℕ) → laid_byte w raster columns (rows.from + (y - rows.to)) i ≡ placed_byte w raster columns rows i y
  unfolding laid_byte placed_byte
  row_from l m i =
      sym (λ j. laid columns (λ x. laid-at rows (λ z. channel w raster (i % 3) x z) y (y - rows.to) (omega arith) m j) (i / 3))

  pub row_below : rows.to ≤ y → rows.count ≤ y - rows.to → (i : ℕ) → zeros i ≡ placed_byte w raster columns rows i y
  row_below l m = none (λ f. laid-past rows f y (omega arith))

-- all rows written from the spans of the moves are the moved frame
pub moved-written : (w h : ℕ) (dx dy : ℤ) (raster before after : List ℕ) (columns lines : Span) → Clipped w dx columns → Clipped h dy lines
    → 3 * (w * h) ≤ length before → FrameAt 0 (3 * w) (placed_byte w raster columns lines) before h after
    → after ≡ written_over (rows (3 * w) h (moved_byte w h dx dy raster)) before
moved-written w h dx dy raster before after columns lines p q room a =
    frame-written (3 * w) h (moved_byte w h dx dy raster) before after (rw (mul_assoc 3 w h) room)
    (record {
      len = a.len;
      under = a.under;
      done = λ i y k l. a.done i y k l ∙ moved-placed w h dx dy raster columns lines p q i y k l;
      over = a.over;
    })

-- ---- what an accepted call knows

pub moved_ok : (w h raster out : ℕ) → moved_refusal w h raster out ≡ 0 → Sized w h raster out
unfolding moved_refusal
moved_ok w h raster out e =
    let n10 : ℕ = 10 when short (raster_length w h) out in
    let n9 : ℕ = 9 when wrong_length (raster_length w h) raster in
    let p = or_else-no (2 when bad_size w h) (n9 or_else n10) e in
    let q = or_else-no n9 n10 p.1 in
    let k = size_ok w h p.0 in
    record {
      width = k.width;
      height = k.height;
      area = k.area;
      exact = length-is (raster_length w h) raster (when-no 9 (wrong_length (raster_length w h) raster) (omega arith) q.0);
      room = ltb-false out (raster_length w h) (when-no 10 (short (raster_length w h) out) (omega arith) q.1);
    }
