-- Laws of rows in their places.
use mathlib.Core.Path.{◌≡◌, refl, sym, ap, ◌∙◌}
use mathlib.Core.Logic.{◌⊎◌, inl, inr, ⊎_elim}
use mathlib.Core.List.{List}
use Prim.Native.Nat.{ℕ, ◌+◌, ◌*◌, ◌-◌, ◌≤◌, ◌<◌, min}
use native.Mathlib.Nat.{zero-add, add-mul, mul_comm, mul-le-mul_right}
use native.Mathlib.Omega.{arith}
use lib.Dec.{ltb}
use lib.ListN.{get_or}
use Rattle.rules.specs.Sums.{gate}
use Rattle.rules.specs.Frames.{Frame}
use Rattle.rules.specs.Buffers.{RowAt, FrameAt}
use Rattle.rules.proofs.SumLaws.{order}
use Rattle.rules.proofs.FrameLaws.{row_fits}
use Rattle.words.specs.declared.moves.Move.{Move}
use Rattle.words.specs.Rows.{bias}
use Rattle.words.specs.MovedRows.{moved_row}
use Rattle.words.proofs.MoveLaws.{gate-lt, gate-ge, back_at, back-under}
use Rattle.shift_words.specs.MovedParts.{moved_rows}
use Rattle.shift_rows.specs.ShiftPlaces.{blank, placed_row, placed_rows}

-- the three cases of a row's source
module _ (src : List ℕ) (h : ℕ) (m : Move) (e y : ℕ) where
  pub row_before : bias + y < e → (k : ℕ) → blank k ≡ placed_row src h m e y k
  unfolding placed_row
  row_before l k = sym (back-under (λ z. gate (ltb z h) (moved_row src (z * m.n) m k)) e (bias + y) l)

  row_back : e ≤ bias + y → (k : ℕ) → placed_row src h m e y k ≡ gate (ltb (bias + y - e) h) (moved_row src ((bias + y - e) * m.n) m k)
  unfolding placed_row
  row_back l k = back_at (λ z. gate (ltb z h) (moved_row src (z * m.n) m k)) e (bias + y - e) (bias + y) (omega arith)

  pub row_inside : e ≤ bias + y → bias + y - e < h → (k : ℕ) → moved_row src ((bias + y - e) * m.n) m k ≡ placed_row src h m e y k
  row_inside l i k = sym (row_back l k ∙ gate-lt (bias + y - e) h (moved_row src ((bias + y - e) * m.n) m k) i)

  pub row-past : e ≤ bias + y → h ≤ bias + y - e → (k : ℕ) → blank k ≡ placed_row src h m e y k
  row-past l i k = sym (row_back l k ∙ gate-ge (bias + y - e) h (moved_row src ((bias + y - e) * m.n) m k) i)

-- ---- rows that are written one block after the other

-- rows written after the first y of a frame
pub rows_more : (to n : ℕ) (f g : Frame) (y rows : ℕ) (before mid after : List ℕ) → FrameAt to n f before y mid → FrameAt (to + y * n) n g mid rows after
    → ((k z : ℕ) → z < rows → g k z ≡ f k (y + z)) → FrameAt to n f before (y + rows) after
rows_more to n f g y rows before mid after a b same = record {
  len = b.len ∙ a.len;
  under = λ i l. b.under i (omega arith) ∙ a.under i l;
  done = λ x z l m. ⊎_elim (old x z l) (new x z l m) (order z y);
  over = λ i l. let e = add-mul y rows n in b.over i (omega arith) ∙ a.over i (omega arith);
}
  where
    old : (x z : ℕ) → x < n → z < y → get_or after (to + (z * n + x)) 0 ≡ f x z
    old x z l m = let d = row_fits n y z m in let e = mul_comm n y in b.under (to + (z * n + x)) (omega arith) ∙ a.done x z l m

    new : (x z : ℕ) → x < n → z < y + rows → y ≤ z → get_or after (to + (z * n + x)) 0 ≡ f x z
    new x z l m o =
        let c : y + (z - y) ≡ z = omega arith in
        let d : z * n ≡ y * n + (z - y) * n = ap (λ (j : ℕ). j * n) (sym c) ∙ add-mul y (z - y) n in
        let e : to + (z * n + x) ≡ to + y * n + ((z - y) * n + x) = omega arith in
        ap (λ (j : ℕ). get_or after j 0) e ∙ b.done x (z - y) l (omega arith) ∙ same x (z - y) (omega arith) ∙ ap (f x) c

-- a block more of the rows, or what is left of them
pub block-more : (to n : ℕ) (f g : Frame) (h y block rows : ℕ) (before mid after : List ℕ) → y < h → rows ≡ min block (h - y)
    → FrameAt to n f before (min y h) mid → FrameAt (to + y * n) n g mid rows after → ((k z : ℕ) → z < rows → g k z ≡ f k (y + z))
    → FrameAt to n f before (min (y + block) h) after
block-more to n f g h y block rows before mid after l e a b same =
    let p : min y h ≡ y = omega arith in
    let q : y + rows ≡ min (y + block) h = omega arith in
    rw q at (rows_more to n f g y rows before mid after (rw p at a) b same)

-- rows lie in their frame
pub rows_fit : (n h y rows : ℕ) → y + rows ≤ h → y * n + n * rows ≤ n * h
rows_fit n h y rows l =
    let a = mul-le-mul_right {m = y + rows} {n = h} n l in
    let b = add-mul y rows n in
    let c = mul_comm n h in
    let d = mul_comm n rows in
    omega arith

-- so do the rows above, those that are moved, where they come from and where they go to, and the rows below
pub parts-room : (n h above below rows : ℕ) → rows ≡ h - above - below → above + below ≤ h
    → ((above * n + n * rows ≤ n * h) × ((below * n + n * rows ≤ n * h) × ((above + rows) * n + below * n ≤ n * h)))
parts-room n h above below rows e l = (
  rows_fit n h above rows (omega arith),
  (rows_fit n h below rows (omega arith), let a = rows_fit n h (above + rows) below (omega arith) in let b = mul_comm n below in omega arith),
)

-- rows of zeros
pub rows-blank : (to n : ℕ) (f : Frame) (rows : ℕ) (before after : List ℕ) → RowAt to blank before (rows * n) after → ((k z : ℕ) → z < rows → 0 ≡ f k z)
    → FrameAt to n f before rows after
rows-blank to n f rows before after a zeros = record {
  len = a.len;
  under = a.under;
  done = λ x z l m. let d = row_fits n rows z m in let e = mul_comm n rows in a.done (z * n + x) (omega arith) ∙ zeros x z m;
  over = a.over;
}

-- moved rows from row y on
pub rows_on : (src : List ℕ) (from : ℕ) (m : Move) (k y z : ℕ) → moved_rows src (from + y * m.n) m k z ≡ moved_rows src from m k (y + z)
rows_on src from m k y z =
    let e = add-mul y z m.n in
    let d : from + y * m.n + z * m.n ≡ from + (y + z) * m.n = omega arith in
    ap (λ (j : ℕ). moved_row src j m k) d

-- ---- the rows above those that have a source, those, and the rows below them

-- moved up, none lies above; otherwise none lies below
abbrev Up : ℕ → ℕ → ℕ → ℕ → Type 0
Up h down above below = (above ≡ 0) × ((down ≤ bias) × (below ≡ min h (bias - down)))

abbrev NotUp : ℕ → ℕ → ℕ → ℕ → Type 0
NotUp h down above below = (below ≡ 0) × ((bias ≤ down) × (above ≡ min h (down - bias)))

abbrev pub Parts : ℕ → ℕ → ℕ → ℕ → Type 0
Parts h down above below = Up h down above below ⊎ NotUp h down above below

pub parts : (h down above below : ℕ) → above ≡ min h (down - bias) → below ≡ min h (bias - down) → Parts h down above below
parts h down above below a b = ⊎_elim (λ (l : down < bias). inl (omega arith, (omega arith, b))) (λ (l : bias ≤ down). inr (omega arith, (l, a))) (order down bias)

module _ (h down above below : ℕ) (p : Parts h down above below) where
  pub parts-fit : above + below ≤ h
  parts-fit = ⊎_elim (λ (c : Up h down above below). omega arith) (λ (c : NotUp h down above below). omega arith) p

  pub parts_all : above + (h - above - below) + below ≡ h
  parts_all = let l = parts-fit in omega arith

  above-under : (z : ℕ) → z < above → bias + z < down
  above-under z l = ⊎_elim (λ (c : Up h down above below). omega arith) (λ (c : NotUp h down above below). omega arith) p

  source_row : (z : ℕ) → z < h - above - below → down + (below + z) ≡ bias + (above + z)
  source_row z l = ⊎_elim (λ (c : Up h down above below). omega arith) (λ (c : NotUp h down above below). omega arith) p

  below-past : (y z : ℕ) → z < below → y ≡ above + (h - above - below) + z → (down ≤ bias + y) × (h ≤ bias + y - down)
  below-past y z l e = ⊎_elim (λ (c : Up h down above below). (omega arith, omega arith)) (λ (c : NotUp h down above below). absurd (omega arith)) p

module _ (src : List ℕ) (h : ℕ) (m : Move) (down above below : ℕ) (p : Parts h down above below) where
  pub placed-above : (k z : ℕ) → z < above → 0 ≡ placed_rows src h m down k z
  placed-above k z l = row_before src h m down z (above-under h down above below p z l) k

  pub placed-inside : (k z : ℕ) → z < h - above - below → moved_rows src (below * m.n) m k z ≡ placed_rows src h m down k (above + z)
  placed-inside k z l =
      let s = source_row h down above below p z l in
      let e : bias + (above + z) - down ≡ below + z = omega (arith, s) in
      let d : below * m.n + z * m.n ≡ (bias + (above + z) - down) * m.n = sym (ap (λ (j : ℕ). j * m.n) e ∙ add-mul below z m.n) in
      ap (λ (j : ℕ). moved_row src j m k) d ∙ row_inside src h m down (above + z) (omega (arith, s)) (rw e (omega arith)) k

  pub placed_below : (k z : ℕ) → z < below → 0 ≡ placed_rows src h m down k (above + (h - above - below) + z)
  placed_below k z l =
      let y : ℕ = above + (h - above - below) + z in
      let s = below-past h down above below p y z l refl in
      row-past src h m down y s.0 s.1 k

  -- the three written one after the other
  pub all_placed : (before first mid after : List ℕ) → RowAt 0 blank before (above * m.n) first
      → FrameAt (above * m.n) m.n (moved_rows src (below * m.n) m) first (h - above - below) mid
      → RowAt ((above + (h - above - below)) * m.n) blank mid (below * m.n) after
      → FrameAt 0 m.n (placed_rows src h m down) before h after
  all_placed before first mid after a b c =
      rw (parts_all h down above below p) at
      (rows_more 0 m.n (placed_rows src h m down) (λ k z. 0) (above + rows) below before mid after
      (rows_more 0 m.n (placed_rows src h m down) (moved_rows src (below * m.n) m) above rows before first mid
      (rows-blank 0 m.n (placed_rows src h m down) above before first a placed-above)
      (rw (← zero-add (above * m.n)) at b) placed-inside)
      (rows-blank (0 + (above + rows) * m.n) m.n (λ k z. 0) below mid after (rw (← zero-add ((above + rows) * m.n)) at c) (λ k z l. refl)) placed_below)
    where
      rows : ℕ
      rows = h - above - below
