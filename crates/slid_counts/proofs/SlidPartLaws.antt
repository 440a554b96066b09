-- The count over parts of lent words.
use mathlib.Core.Path.{◌≡◌, ap, ◌∙◌}
use mathlib.Core.List.{List}
use Prim.Native.Nat.{ℕ, ◌*◌, ◌-◌}
use native.Mathlib.Omega.{arith}
use lib.IntN.{ℤ}
use lib.ListN.{length, take, drop, length-drop}
use lib.Seq.{take_all}
use mir.Syntax.{w32}
use mir.Val.{SFits, to_z, of_z}
use mir.Facts.{to_z-of_z}
use Rattle.rules.specs.Bitmaps.{row_words}
use Rattle.rules.specs.Differences.{Planes}
use Rattle.rules.specs.Calls.{planes_of}
use Rattle.slid_counts.specs.SlidPlaces.{first_in, slid_in}

-- a list from place n on, as it is lent
abbrev lent_from : ℕ → List ℕ → List ℕ
lent_from n l = take (length l - n) (drop n l)

lent_is : (n : ℕ) (l : List ℕ) → lent_from n l ≡ drop n l
lent_is n l = take_all (length l - n) (drop n l) (let a = length-drop n l in omega arith)

-- the parts of the words from their bitmaps on, for the numbers against the slid frame
module _ (w h n : ℕ) (words : List ℕ) (e : n ≡ row_words w * h) where
  -- any number of the planes
  pub parts_same : (number : ℤ → Planes → Planes → ℕ) (dy : ℤ) → SFits w32 dy
      → number (to_z w32 (of_z w32 dy)) (planes_of w h words (lent_from n words)) (planes_of w h (lent_from (4 * n) words) (lent_from (5 * n) words))
      ≡ number dy (first_in w h words) (slid_in w h words)
  parts_same number dy fits =
      (λ i. number (to_z-of_z fits i) (planes_of w h words (lent_is n words i)) (planes_of w h (lent_is (4 * n) words i) (lent_is (5 * n) words i)))
      ∙ ap (λ (m : ℕ). number dy (planes_of w h words (drop m words)) (planes_of w h (drop (4 * m) words) (drop (5 * m) words))) e
