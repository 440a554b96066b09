-- The tally of two frames moved by whole rows, as one run of words.
use mathlib.Core.Path.{◌≡◌, refl, sym, ap, ap₂, ◌∙◌}
use mathlib.Core.Logic.{⊎_elim}
use mathlib.Core.List.{List}
use Prim.Native.Nat.{ℕ, ◌+◌, ◌*◌, ◌-◌, ◌/◌, ◌%◌, ◌≤◌, ◌<◌, max}
use native.Mathlib.Nat.{add-mul, mul_assoc, mul_comm, mul-le-mul}
use native.Mathlib.Omega.{arith}
use lib.ListN.{get_or}
use lib.IntN.{ℤ, pos}
use mir.Syntax.{w32}
use mir.Val.{SFits}
use Rattle.rules.specs.Sums.{sum, sum_pixels}
use Rattle.rules.specs.Bitmaps.{bit, row_words}
use Rattle.rules.specs.Differences.{difference, compared}
use Rattle.rules.proofs.SumLaws.{order, sum-ext, sum-zero, sum-split, pixels-flat}
use Rattle.words.specs.Rows.{row_bit, bias, bias_of}
use Rattle.words.proofs.MoveLaws.{gate-lt, back_at}
use Rattle.words.specs.Moves.{moved_bit}
use Rattle.differing.specs.declared.FramePair.{FramePair}
use Rattle.differing.specs.RowDifferences.{row_differ, row_kept, row_tally, line_tally, first_planes, second_planes}
use Rattle.word_runs.specs.WordRuns.{run_bit, run_differ, run_kept, run_tally, Clean}
use Rattle.tallies.specs.Tallies.{tally}
use Rattle.popcount.proofs.RowLaws.{sum-stop, row-words-le}
use Rattle.differing.proofs.DifferLaws.{pixel_tally, tally-right, line_before, line-past, line-paired, frame-whole}

-- ---- a row of a run

-- words k rows further on
module _ (n top k p : ℕ) where
  far-place : top * n + (k * (n * 64) + p) / 64 ≡ (top + k) * n + p / 64
  far-place = let a = mul_assoc k n 64 in let b = add-mul top k n in omega arith

  far-bit : (k * (n * 64) + p) % 64 ≡ p % 64
  far-bit = let a = mul_assoc k n 64 in omega arith

  far-run : (words : List ℕ) → run_bit words (top * n) (k * (n * 64) + p) ≡ run_bit words ((top + k) * n) p
  unfolding run_bit
  far-run words = ap₂ (λ (i j : ℕ). bit (get_or words i 0) j) far-place far-bit

far-tally : (pair : FramePair) (n top from k p : ℕ)
    → run_tally pair (top * n) (from * n) (k * (n * 64) + p) ≡ run_tally pair ((top + k) * n) ((from + k) * n) p
unfolding run_differ run_kept
far-tally pair n top from k p j =
    pixel_tally (far-run n top k p pair.threshold1.now j) (far-run n top k p pair.exclusion1.now j) (far-run n from k p pair.threshold2.now j) (far-run n from k p pair.exclusion2.now j)

-- a pixel of two rows that are not moved sideways
run-row-bit : (words : List ℕ) (base w x : ℕ) → x < w → run_bit words base x ≡ row_bit words base w x
unfolding run_bit row_bit
run-row-bit words base w x l = sym (gate-lt x w (bit (get_or words (base + x / 64) 0) (x % 64)) l)

still-bit : (words : List ℕ) (from w x : ℕ) → moved_bit words from w bias x ≡ row_bit words from w x
unfolding moved_bit
still-bit words from w x = back_at (row_bit words from w) bias x (bias + x) refl

still-tally : (pair : FramePair) (base from w x : ℕ) → x < w → run_tally pair base from x ≡ row_tally pair.threshold1.now pair.exclusion1.now pair.threshold2.now pair.exclusion2.now base from w bias x
unfolding run_differ run_kept row_differ row_kept
still-tally pair base from w x l j =
    pixel_tally (run-row-bit pair.threshold1.now base w x l j) (run-row-bit pair.exclusion1.now base w x l j)
    ((run-row-bit pair.threshold2.now from w x l ∙ sym (still-bit pair.threshold2.now from w x)) j) ((run-row-bit pair.exclusion2.now from w x l ∙ sym (still-bit pair.exclusion2.now from w x)) j)

words-over : (w : ℕ) → w ≤ row_words w * 64
unfolding row_words
words-over w = omega arith

module _ (w h : ℕ) (pair : FramePair) (c : Clean w h pair.exclusion2.now) where
  clean-tally : (base z x : ℕ) → z < h → w ≤ x → x < row_words w * 64 → run_tally pair base (z * row_words w) x ≡ 0
  unfolding run_differ run_kept run_bit
  clean-tally base z x l m k =
      ap (λ (e : ℕ). pixel_tally (run_bit pair.threshold1.now base x) (run_bit pair.exclusion1.now base x) (run_bit pair.threshold2.now (z * row_words w) x) e) (c.past x z m k l)
      ∙ tally-right (run_bit pair.threshold1.now base x) (run_bit pair.exclusion1.now base x) (run_bit pair.threshold2.now (z * row_words w) x)

  -- the words of a row make up its pixels: bits past w add nothing
  row-run : (base z : ℕ) → z < h
      → sum (row_words w * 64) (run_tally pair base (z * row_words w)) ≡ sum w (row_tally pair.threshold1.now pair.exclusion1.now pair.threshold2.now pair.exclusion2.now base (z * row_words w) w bias)
  row-run base z l =
      sum-stop w (row_words w * 64) (run_tally pair base (z * row_words w)) (words-over w) (λ x m k. clean-tally base z x l m k)
      ∙ sum-ext w (run_tally pair base (z * row_words w)) (row_tally pair.threshold1.now pair.exclusion1.now pair.threshold2.now pair.exclusion2.now base (z * row_words w) w bias)
      (λ x m. still-tally pair base (z * row_words w) w x m)

-- ---- the rows of a frame

-- only the summands from `top` on count, and of those only the first few
sum-window : (top rows n : ℕ) (f : ℕ → ℕ) → top + rows ≤ n → ((i : ℕ) → i < top → f i ≡ 0) → ((i : ℕ) → top + rows ≤ i → i < n → f i ≡ 0)
    → sum n f ≡ sum rows (λ k. f (top + k))
sum-window top rows n f l below above =
    let a = sum-stop (top + rows) n f l above in
    let b = sum-split top rows f in
    let z = sum-zero top f below in
    omega arith

-- The rows of the first frame that have a partner begin at row `top`, their partners at row `from`; one of the two is 0.
module _ (w h : ℕ) (dy : ℤ) (pair : FramePair) (up top from : ℕ) (b : SFits w32 dy) (u : up ≡ bias_of dy) (t : top ≡ max up bias - bias) (f : from ≡ max up bias - up) where
  abbrev frame_tally : ℕ
  frame_tally = tally (difference w h (pos 0) dy (first_planes w h pair) (second_planes w h pair)) (compared w h (pos 0) dy (first_planes w h pair) (second_planes w h pair))

  abbrev line : ℕ → ℕ
  line = line_tally pair.threshold1.now pair.exclusion1.now pair.threshold2.now pair.exclusion2.now w h bias up

  -- a row whose partner lies outside
  alone : (y : ℕ) → (top ≤ y → h ≤ from + (y - top)) → line y ≡ 0
  alone y g =
      ⊎_elim
      (λ (l : y < top). line_before pair.threshold1.now pair.exclusion1.now pair.threshold2.now pair.exclusion2.now w h bias up y (omega arith))
      (λ (l : top ≤ y). line-past pair.threshold1.now pair.exclusion1.now pair.threshold2.now pair.exclusion2.now w h bias up y (from + (y - top)) (omega arith) (g l))
      (order y top)

  whole : (r : ℕ) → r ≡ sum h line → r ≡ frame_tally
  unfolding bias_of
  whole r e = frame-whole w h (pos 0) dy pair.threshold1.now pair.exclusion1.now pair.threshold2.now pair.exclusion2.now (record { sfits = omega arith }) b w bias up r refl refl u e

  -- no row has a partner
  pub overlap-none : h ≤ top + from → 0 ≡ frame_tally
  overlap-none l = whole 0 (sym (sum-zero h line (λ y m. alone y (λ k. omega arith))))

  module _ (c : Clean w h pair.exclusion2.now) (l : top + from < h) where
    abbrev rows : ℕ
    rows = h - (top + from)

    abbrev run : ℕ → ℕ
    run = run_tally pair (top * row_words w) (from * row_words w)

    line-run : (k : ℕ) → k < rows → sum (row_words w * 64) (λ p. run (k * (row_words w * 64) + p)) ≡ line (top + k)
    line-run k m =
        sum-ext (row_words w * 64) (λ p. run (k * (row_words w * 64) + p)) (run_tally pair ((top + k) * row_words w) ((from + k) * row_words w))
        (λ p g. far-tally pair (row_words w) top from k p)
        ∙ row-run w h pair c ((top + k) * row_words w) (from + k) (omega arith)
        ∙ line-paired pair.threshold1.now pair.exclusion1.now pair.threshold2.now pair.exclusion2.now w h bias up (top + k) (from + k) (row_words w) (omega arith) (omega arith) refl

    rows_run : sum (rows * row_words w * 64) run ≡ sum h line
    unfolding sum_pixels
    rows_run =
        ap (λ (m : ℕ). sum m run) (mul_assoc rows (row_words w) 64)
        ∙ sym (pixels-flat (row_words w * 64) rows run)
        ∙ sum-ext rows (λ k. sum (row_words w * 64) (λ p. run (k * (row_words w * 64) + p))) (λ k. line (top + k)) line-run
        ∙ sym (sum-window top rows h line (omega arith) (λ y m. alone y (λ k. omega arith)) (λ y m o. alone y (λ k. omega arith)))

    pub overlap-whole : (n r : ℕ) → n ≡ row_words w → r ≡ sum ((h - (top + from)) * n * 64) (run_tally pair (top * n) (from * n))
        → r ≡ frame_tally
    overlap-whole n r e s =
        whole r (s ∙ ap (λ (m : ℕ). sum (rows * m * 64) (run_tally pair (top * m) (from * m))) e ∙ rows_run)

-- the words before the runs, of the runs and after them
pub frame-words : (w h n top from : ℕ) → n ≡ row_words w → w ≤ 4096 → h ≤ 4096 → top + from < h
    → (top * n + from * n + (h - (top + from)) * n ≡ h * n) × ((row_words w * h ≡ h * n) × (h * n ≤ 262144))
frame-words w h n top from e lw lh l = (
  omega (arith, add-mul (top + from) (h - (top + from)) n, add-mul top from n, ap (λ (m : ℕ). m * n) all),
  (ap (λ (m : ℕ). m * h) (sym e) ∙ mul_comm n h, mul-le-mul lh (let a : n ≤ 64 = omega (arith, row-words-le w lw) in a)),
)
  where
    all : top + from + (h - (top + from)) ≡ h
    all = omega arith
