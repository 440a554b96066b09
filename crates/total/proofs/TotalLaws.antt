-- The total of a bitmap: the last word of a row, and the rows of a frame.
use mathlib.Core.Path.{◌≡◌, refl, sym, ap, ◌∙◌}
use mathlib.Core.List.{List}
use Prim.Native.Nat.{ℕ, ◌+◌, ◌*◌, ◌-◌, ◌≤◌, ◌<◌}
use native.Mathlib.Omega.{arith}
use lib.Dec.{ltb}
use lib.ListN.{length, take, drop, get_or}
use Rattle.std.proofs.lemmas.List.{length-take, length-drop, get_or-take, get_or-drop}
use Rattle.rules.specs.Sums.{gate, sum, row_sum, sum_pixels}
use Rattle.rules.specs.Planes.{total}
use Rattle.rules.specs.Bitmaps.{bit, bit_at, row_words}
use Rattle.rules.proofs.SumLaws.{gate-le, sum-ext}
use Rattle.words.specs.Rows.{WordOf, row_bit}
use Rattle.words.proofs.MoveLaws.{row-past, row_last, bit_at-row}
use Rattle.popcount.specs.RowCounts.{Adds}
use Rattle.popcount.proofs.RowLaws.{row-sum, word_next, bits-le, row_bit-lt, bit_at-in}

-- a row of which the last word, with `rest` pixels, is still to come
pub row_ends : (words : List ℕ) (base last rest k count v bits : ℕ) → 1 ≤ rest → rest ≤ 64 → k ≡ last
    → Adds (row_bit words base (last * 64 + rest)) 0 k count
    → ((i : ℕ) → bit v i ≡ gate (ltb i rest) (bit (get_or words (base + last) 0) i)) → bits ≡ sum 64 (bit v)
    → count + bits ≡ sum (last * 64 + rest) (row_bit words base (last * 64 + rest))
unfolding row_words
row_ends words base last rest k count v bits l m e a d o =
    let w : ℕ = last * 64 + rest in
    let f : ℕ → ℕ = row_bit words base w in
    let n : last + 1 ≡ row_words w = omega arith in
    let r : w - last * 64 ≡ rest = omega arith in
    let b : WordOf f last v =
    λ i h. d i ∙ ap (λ (j : ℕ). gate (ltb i j) (bit (get_or words (base + last) 0) i)) (sym r) ∙ row_last words base w last i (omega arith) h in
    row-sum f w (count + bits) (row-past words base w) (rw n at (word_next f 0 last count v bits (rw e at a) b o))

-- the pixels of a row's last word
pub last_word : (w n : ℕ) → 0 < w → n ≡ row_words w → (1 ≤ n) × (((n - 1) * 64 < w) × (w ≤ n * 64))
unfolding row_words
last_word w n l e = (omega arith, (omega arith, omega arith))

-- a row of a frame
bit_at_lt : (w h : ℕ) (words : List ℕ) (x y : ℕ) → bit_at w h words x y < 2
bit_at_lt w h words x y =
    let a = gate-le (ltb y h) (row_bit words (y * row_words w) w x) in
    let b = row_bit-lt words (y * row_words w) w x in
    let c = bit_at-row w h words x y in
    omega arith

pub total-row-le : (w h y : ℕ) (words : List ℕ) → w ≤ 4096 → row_sum w (bit_at w h words) y ≤ 4096
total-row-le w h y words l = let a = bits-le w (λ x. bit_at w h words x y) (λ x. bit_at_lt w h words x y) in omega arith

pub total-row : (w w' h y base : ℕ) (words : List ℕ) → y < h → w' ≡ w → base ≡ y * row_words w
    → sum w' (row_bit words base w') ≡ row_sum w (bit_at w h words) y
total-row w w' h y base words l e b =
    (λ j. sum (e j) (row_bit words (b j) (e j)))
    ∙ sum-ext w (row_bit words (y * row_words w) w) (λ x. bit_at w h words x y) (λ x k. sym (bit_at-in w h words x y l))

pub total-whole : (w h : ℕ) (words : List ℕ) → sum h (row_sum w (bit_at w h words)) ≡ total w h (bit_at w h words)
unfolding total sum_pixels
total-whole w h words = refl

-- the full words of a row, lent
pub lent-full : (words : List ℕ) (base last : ℕ) → base + last < length words → length (take (base + last - base) (drop base words)) ≡ last
lent-full words base last l = omega (arith, length-take (base + last - base) (drop base words), length-drop base words)

pub lent_word : (words : List ℕ) (base last k : ℕ) → base + last < length words → k < last
    → get_or (take (base + last - base) (drop base words)) k 0 ≡ get_or words (base + k) 0
lent_word words base last k l m =
    get_or-take (base + last - base) (drop base words) k 0 (omega arith) ∙ get_or-drop base words k 0
