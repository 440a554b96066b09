-- Laws of rows moved sideways, written in parts: a run of interiors, and columns beside them. Where the rows lie in the memory that is written, their source ends at or before the result's place, so what is written there leaves it as it was.
use mathlib.Core.Path.{◌≡◌, sym, ap, ap₂, ◌∙◌}
use mathlib.Core.Logic.{⊎_elim}
use mathlib.Core.List.{List}
use Prim.Native.Nat.{ℕ, suc, ◌+◌, ◌*◌, ◌-◌, ◌/◌, ◌%◌, ◌≤◌, ◌<◌}
use native.Mathlib.Nat.{mul_comm, mul-le-mul_right, suc-mul}
use native.Mathlib.Omega.{arith}
use lib.Arith.{digits_mod}
use lib.Dec.{ltb}
use lib.ListN.{length, get_or, set, length-set}
use lib.Seq.{get_or-set_same, get_or-set_other}
use Rattle.rules.specs.Sums.{gate}
use Rattle.rules.specs.Frames.{Frame}
use Rattle.rules.specs.Bitmaps.{bit, row_words}
use Rattle.rules.proofs.SumLaws.{order}
use Rattle.rules.specs.Buffers.{RowAt, FrameAt}
use Rattle.rules.proofs.FrameLaws.{row-none, row_more, row_fits}
use Rattle.words.specs.Rows.{row_bit, back, bias, bias_words}
use Rattle.words.proofs.BitLaws.{word-ext}
use Rattle.words.proofs.MoveLaws.{gate-lt, row-bit, back_at}
use Rattle.words.specs.declared.moves.Move.{Move}
use Rattle.words.specs.Moves.{moved_bit, Interior}
use Rattle.words.specs.MovedRows.{moved_word}
use Rattle.words.proofs.JoinLaws.{full-le}
use Rattle.words.proofs.MovedRowLaws.{by-pixels, moved-under}
use Rattle.shift_words.specs.MovedParts.{from_word, moved_rows, Columns, Interiors}
use Rattle.shift_words.specs.Runs.{RunIn}

-- ---- a row of which a part is written

-- a row of which the words from `first` on are to be written
pub part_none : (f : ℕ → ℕ) (before : List ℕ) (to first : ℕ) → RowAt (to + first) (from_word first f) before (first - first) before
part_none f before to first = let e : 0 ≡ first - first = omega arith in rw e at (row-none (to + first) (from_word first f) before)

-- one word more of it
pub part-more : (f : ℕ → ℕ) (before mid : List ℕ) (to first k v : ℕ) → first ≤ k → to + k < length before
    → RowAt (to + first) (from_word first f) before (k - first) mid → v ≡ f k
    → RowAt (to + first) (from_word first f) before (k + 1 - first) (set mid (to + k) v)
part-more f before mid to first k v l room a e =
    let p : to + first + (k - first) ≡ to + k = omega arith in
    let q : k - first + 1 ≡ k + 1 - first = omega arith in
    let s : first + (k - first) ≡ k = omega arith in
    rw (p, q) at (row_more (to + first) (from_word first f) before (k - first) mid v (omega arith) a (e ∙ ap f (sym s)))

-- the words up to b, and those from b on
pub part_join : (f : ℕ → ℕ) (before mid after : List ℕ) (to a b c : ℕ) → a ≤ b → b ≤ c
    → RowAt (to + a) (from_word a f) before (b - a) mid → RowAt (to + b) (from_word b f) mid (c - b) after
    → RowAt (to + a) (from_word a f) before (c - a) after
part_join f before mid after to a b c l m r s = record {
  len = s.len ∙ r.len;
  under = λ i j. s.under i (omega arith) ∙ r.under i j;
  done = λ k j. ⊎_elim (λ (n : k < b - a). s.under (to + a + k) (omega arith) ∙ r.done k n) (new k j) (order k (b - a));
  over = λ i j. s.over i (omega arith) ∙ r.over i (omega arith);
}
  where
    new : (k : ℕ) → k < c - a → b - a ≤ k → get_or after (to + a + k) 0 ≡ f (a + k)
    new k j n =
        let p : to + a + k ≡ to + b + (a + k - b) = omega arith in
        let q : b + (a + k - b) ≡ a + k = omega arith in
        ap (λ (i : ℕ). get_or after i 0) p ∙ s.done (a + k - b) (omega arith) ∙ ap f q

-- ---- all rows as one

-- the words of a row of n full words
pub long-words : (n : ℕ) → row_words (n * 64) ≡ n
unfolding row_words
long-words n = omega arith

-- an interior word of row y is the same word of all rows taken as one
long-word : (words : List ℕ) (from w n h q r k y : ℕ) → r < 64 → Interior (w / 64) q k → n ≡ row_words w → y < h
    → moved_word words from (n * h * 64) q r (y * n + k) ≡ moved_word words (from + y * n) w q r k
unfolding moved_bit
long-word words from w n h q r k y l o e m =
    by-pixels words from (n * h * 64) q r (y * n + k) l
    ∙ word-ext
    (λ i. gate (ltb ((y * n + k) * 64 + i) (n * h * 64)) (back (row_bit words from (n * h * 64)) (q * 64 + r) (bias + ((y * n + k) * 64 + i))))
    (λ i. gate (ltb (k * 64 + i) w) (back (row_bit words (from + y * n) w) (q * 64 + r) (bias + (k * 64 + i)))) same
    ∙ sym (by-pixels words (from + y * n) w q r k l)
  where
    same : (i : ℕ) → i < 64
        → gate (ltb ((y * n + k) * 64 + i) (n * h * 64)) (back (row_bit words from (n * h * 64)) (q * 64 + r) (bias + ((y * n + k) * 64 + i)))
        ≡ gate (ltb (k * 64 + i) w) (back (row_bit words (from + y * n) w) (q * 64 + r) (bias + (k * 64 + i)))
    same i g =
        let d : ℕ = q * 64 + r in
        let p : ℕ = bias + (k * 64 + i) - d in
        let f = row_fits n h y m in
        let b : (k < w / 64) × ((d + p ≡ bias + (k * 64 + i)) × (p < w / 64 * 64)) = (o.here, (omega (arith, o), omega (arith, o))) in
        let c = full-le w in
        let s : d + ((y * n + p / 64) * 64 + p % 64) ≡ bias + ((y * n + k) * 64 + i) = omega arith in
        let t : d + (p / 64 * 64 + p % 64) ≡ bias + (k * 64 + i) = omega arith in
        let u : from + (y * n + p / 64) ≡ from + y * n + p / 64 = omega arith in
        gate-lt ((y * n + k) * 64 + i) (n * h * 64) (back (row_bit words from (n * h * 64)) d (bias + ((y * n + k) * 64 + i))) (omega arith)
        ∙ back_at (row_bit words from (n * h * 64)) d ((y * n + p / 64) * 64 + p % 64) (bias + ((y * n + k) * 64 + i)) s
        ∙ row-bit words from (n * h * 64) (y * n + p / 64) (p % 64) (omega arith) (omega arith)
        ∙ ap (λ (j : ℕ). bit (get_or words j 0) (p % 64)) u
        ∙ sym (gate-lt (k * 64 + i) w (back (row_bit words (from + y * n) w) d (bias + (k * 64 + i))) (omega arith)
        ∙ back_at (row_bit words (from + y * n) w) d (p / 64 * 64 + p % 64) (bias + (k * 64 + i)) t
        ∙ row-bit words (from + y * n) w (p / 64) (p % 64) (omega arith) (omega arith))

-- the run's words are interior to that row
pub run_inside : (m : Move) (h k : ℕ) → m.first < m.end → 0 < h → m.first ≤ k → k < (h - 1) * m.n + m.end
    → Interior (m.n * h * 64 / 64) m.q k
run_inside m h k some l g j =
    let a = m.moves.inside m.first (omega arith) some in
    let b = m.moves.inside (m.end - 1) (omega arith) (omega arith) in
    let f = row_fits m.n h (h - 1) (omega arith) in
    let c = full-le m.w in
    record { here = omega (arith, m.moves.ends); low = omega (arith, a.low); high = omega (arith, b.high, m.moves.row, m.moves.ends) }

-- the run's words lie in the memory that is written, and what they are made of in the source
pub run_fits : (m : Move) (h first end from src to dst : ℕ) → RunIn m h first end from src to dst
    → (m.q < first + bias_words) × (from + first + bias_words - m.q + (end - first) ≤ src) × (to + end ≤ dst)
run_fits m h first end from src to dst r =
    let a = m.moves.inside m.first (omega arith) r.some.0 in
    let b = m.moves.inside (m.end - 1) (omega arith) (omega arith) in
    let f = row_fits m.n h (h - 1) (omega arith) in
    let c = full-le m.w in
    (omega (arith, a.low), omega (arith, a.low, b.high, m.moves.ends, r.before, r.source), omega (arith, m.moves.ends, r.before, r.room))

-- the run's words
pub run-interiors : (src before after : List ℕ) (from : ℕ) (m : Move) (h to : ℕ) → m.first < m.end → 0 < h
    → RowAt (to + m.first) (from_word m.first (moved_word src from (m.n * h * 64) m.q m.r)) before ((h - 1) * m.n + m.end - m.first) after
    → Interiors to h m (moved_rows src from m) before after
run-interiors src before after from m h to some l a = record {
  len = a.len;
  under = λ i j. a.under i (omega arith);
  done = done;
  over = λ i j. a.over i (let f = row_fits m.n h (h - 1) (omega arith) in let c = mul_comm m.n h in omega (arith, m.moves.ends));
}
  where
    done : (k y : ℕ) → m.first ≤ k → k < m.end → y < h → get_or after (to + (y * m.n + k)) 0 ≡ moved_rows src from m k y
    done k y g j i =
        let p : to + (y * m.n + k) ≡ to + m.first + (y * m.n + k - m.first) = omega arith in
        let q : m.first + (y * m.n + k - m.first) ≡ y * m.n + k = omega arith in
        let b = mul-le-mul_right {m = y} {n = h - 1} m.n (omega arith) in
        ap (λ (x : ℕ). get_or after x 0) p
        ∙ a.done (y * m.n + k - m.first) (omega arith)
        ∙ ap (moved_word src from (m.n * h * 64) m.q m.r) q
        ∙ long-word src from m.w m.n h m.q m.r k y m.moves.bits (m.moves.inside k g j) m.moves.row i

-- ---- columns

-- moved rows of a bitmap that ends at or before a place under which nothing has changed
pub rows_under : (before after : List ℕ) (from : ℕ) (m : Move) (h to k y : ℕ) → m.n ≡ row_words m.w → from + m.n * h ≤ to → y < h
    → ((i : ℕ) → i < to → get_or after i 0 ≡ get_or before i 0) → moved_rows after from m k y ≡ moved_rows before from m k y
rows_under before after from m h to k y n apart l same =
    let f = row_fits m.n h y l in moved-under before after to (from + y * m.n) m.w m.q m.r k same (omega arith)

-- a place has one row and one word
pub place-one : (n k z x y : ℕ) → k < n → x < n → z * n + k ≡ y * n + x → k ≡ x
place-one n k z x y l m e = sym (digits_mod z l) ∙ ap (λ (j : ℕ). j % n) e ∙ digits_mod y m

pub columns-under : (to n : ℕ) (f : Frame) (first end : ℕ) (before : List ℕ) (y : ℕ) (after : List ℕ) → Columns to n f first end before y after
    → (i : ℕ) → i < to → get_or after i 0 ≡ get_or before i 0
columns-under to n f first end before y after a i l = a.kept i (λ k z g j c e. omega arith)

-- one row more of a column
pub column-more : (to n : ℕ) (f : Frame) (h k y v : ℕ) (before mid : List ℕ) → to + n * h ≤ length before → k < n → y < h
    → Columns to n f k (k + 1) before y mid → v ≡ f k y → Columns to n f k (k + 1) before (y + 1) (set mid (to + (y * n + k)) v)
column-more to n f h k y v before mid room b l a e = record {
  len = length-set mid (to + (y * n + k)) v ∙ a.len;
  done = λ x z g j i. ⊎_elim (old x z g j) (new x z g j i) (order z y);
  kept = λ i p. get_or-set_other mid (to + (y * n + k)) i v 0 (p k y (omega arith) (omega arith) (omega arith))
      ∙ a.kept i (λ x z g j c q. p x z g j (omega arith) q);
}
  where
    old : (x z : ℕ) → k ≤ x → x < k + 1 → z < y → get_or (set mid (to + (y * n + k)) v) (to + (z * n + x)) 0 ≡ f x z
    old x z g j i =
        let c = mul-le-mul_right {m = suc z} {n = y} n i in
        let d = suc-mul z n in
        get_or-set_other mid (to + (y * n + k)) (to + (z * n + x)) v 0 (omega arith) ∙ a.done x z g j i

    new : (x z : ℕ) → k ≤ x → x < k + 1 → z < y + 1 → y ≤ z → get_or (set mid (to + (y * n + k)) v) (to + (z * n + x)) 0 ≡ f x z
    new x z g j i o =
        let c : x ≡ k = omega arith in
        let d : z ≡ y = omega arith in
        let r = row_fits n h y l in
        let u = a.len in
        ap₂ (λ (s t : ℕ). get_or (set mid (to + (y * n + k)) v) (to + (t * n + s)) 0) c d
        ∙ get_or-set_same mid (to + (y * n + k)) v 0 (omega arith)
        ∙ e
        ∙ ap₂ f (sym c) (sym d)

-- one column more
pub columns-more : (to n : ℕ) (f : Frame) (h first k : ℕ) (before mid after : List ℕ) → first ≤ k → k < n
    → Columns to n f first k before h mid → Columns to n f k (k + 1) mid h after → Columns to n f first (k + 1) before h after
columns-more to n f h first k before mid after l b a r = record {
  len = r.len ∙ a.len;
  done = λ x z g j i. ⊎_elim (old x z g i) (λ (o : k ≤ x). r.done x z o j i) (order x k);
  kept = λ i p. r.kept i (λ x z g j c e. p x z (omega arith) j c e) ∙ a.kept i (λ x z g j c e. p x z g (omega arith) c e);
}
  where
    old : (x z : ℕ) → first ≤ x → z < h → x < k → get_or after (to + (z * n + x)) 0 ≡ f x z
    old x z g i o =
        r.kept (to + (z * n + x)) (λ s t p q c e. let d = place-one n s t x z (omega arith) (omega arith) (omega arith) in omega arith)
        ∙ a.done x z g o i

-- ---- all words of all rows

-- the interiors and the columns before and after them make up the rows
pub parts_whole : (to h : ℕ) (m : Move) (f : Frame) (before mid late after : List ℕ) → Interiors to h m f before mid
    → Columns to m.n f 0 m.first mid h late → Columns to m.n f m.end m.n late h after → FrameAt to m.n f before h after
parts_whole to h m f before mid late after a l r = record {
  len = r.len ∙ l.len ∙ a.len;
  under = λ i j. columns-under to n f m.end n late h after r i j ∙ columns-under to n f 0 m.first mid h late l i j ∙ a.under i j;
  done = λ x z g j. ⊎_elim (left x z g j) (λ (o : m.first ≤ x). ⊎_elim (inner x z g j o) (λ (u : m.end ≤ x). r.done x z u g j) (order x m.end)) (order x m.first);
  over = λ i j. r.kept i (λ k z g o c e. past i k z j o c e) ∙ l.kept i (λ k z g o c e. past i k z j (omega (arith, m.moves)) c e) ∙ a.over i j;
}
  where
    n : ℕ
    n = m.n

    past : (i k z : ℕ) → to + h * n ≤ i → k < n → z < h → i ≡ to + (z * n + k) → ⊥
    past i k z j g c e = let t = row_fits n h z c in let d = mul_comm n h in omega arith

    left : (x z : ℕ) → x < n → z < h → x < m.first → get_or after (to + (z * n + x)) 0 ≡ f x z
    left x z g j o =
        r.kept (to + (z * n + x)) (λ k y p q c e. let d = place-one n k y x z q g (omega arith) in omega (arith, m.moves))
        ∙ l.done x z (omega arith) o j

    inner : (x z : ℕ) → x < n → z < h → m.first ≤ x → x < m.end → get_or after (to + (z * n + x)) 0 ≡ f x z
    inner x z g j o u =
        r.kept (to + (z * n + x)) (λ k y p q c e. let d = place-one n k y x z q g (omega arith) in omega arith)
        ∙ l.kept (to + (z * n + x)) (λ k y p q c e. let d = place-one n k y x z (omega (arith, m.moves)) g (omega arith) in omega arith)
        ∙ a.done x z o u j
