-- Laws of the settings line.
use mathlib.Core.Path.{◌≡◌, refl, ap, ◌∙◌}
use mathlib.Core.Logic.{⊎_elim}
use mathlib.Core.Bool.{Bool, true, false, cond}
use mathlib.Core.List.{List}
use Prim.Native.Nat.{ℕ, ◌+◌, ◌≤◌, ◌<◌}
use native.Mathlib.Nat.{zero-add}
use native.Mathlib.Omega.{arith}
use lib.Dec.{eqb}
use Rattle.std.proofs.Common.{Option, Some, None}
use Rattle.std.proofs.lemmas.Option.{same_Some}
use lib.ListN.{length, get_or, drop, get_or-eq_default}
use borrow.Author.Tests.{eqb-true, eq-eqb, ne_eqb}
use Rattle.rules.proofs.SumLaws.{order}
use Rattle.text.specs.declared.Number.{Number}
use Rattle.text.specs.Digits.{number_of}
use Rattle.settings_line.specs.declared.Settings.{Settings}
use Rattle.settings_line.specs.SettingsLine.{spaced, last, numbers_of}
use Rattle.settings_line.specs.SpacedNumbers.{with_space, spaced_number}

-- A number and the byte after it.
pub space-none : (line : List ℕ) (at : ℕ) → number_of (drop at line) ≡ None → spaced_number line at ≡ None
unfolding spaced_number with_space
space-none line at e = rw e

module _ (line : List ℕ) (at : ℕ) (n : Number) (e : number_of (drop at line) ≡ Some n) where
  pub space-missing : length line ≤ at + n.count → spaced_number line at ≡ None
  unfolding spaced_number with_space
  space-missing l = rw (e, get_or-eq_default line 0 l)

  pub space-other : (get_or line (at + n.count) 0 ≡ 32 → ⊥) → spaced_number line at ≡ None
  unfolding spaced_number with_space
  space-other d = rw (e, ne_eqb (get_or line (at + n.count) 0) 32 d)

  pub space-read : get_or line (at + n.count) 0 ≡ 32 → spaced_number line at ≡ Some (record { value = n.value; count = n.count + 1 })
  unfolding spaced_number with_space
  space-read d = rw (e, eq-eqb (get_or line (at + n.count) 0) 32 d)

-- the same number with the 32 after it
abbrev one_more : Number → Number
one_more n = record { value = n.value; count = n.count + 1 }

-- Reading a number together with its 32 is reading the number and looking at the next byte.
pub spaced-none : (line : List ℕ) (at : ℕ) (next : ℕ → ℕ → Option Settings) → spaced_number line at ≡ None
    → spaced line at (number_of (drop at line)) next ≡ None
unfolding spaced_number with_space spaced
spaced-none line at next e = cases (number_of (drop at line)) e
  where
    tested : (t : Bool) (n : Number) → cond t (Some (one_more n)) None ≡ None → cond t (next n.value (at + n.count + 1)) None ≡ None
    tested true n e = cc
    tested false n e = refl

    cases : (m : Option Number) → with_space line at m ≡ None → spaced line at m next ≡ None
    cases None e = refl
    cases (Some n) e = tested (eqb (get_or line (at + n.count) 0) 32) n e

pub spaced-some : (line : List ℕ) (at : ℕ) (n : Number) (next : ℕ → ℕ → Option Settings) → spaced_number line at ≡ Some n
    → spaced line at (number_of (drop at line)) next ≡ next n.value (at + n.count)
unfolding spaced_number with_space spaced
spaced-some line at n next e = cases (number_of (drop at line)) e
  where
    tested : (t : Bool) (m : Number) → cond t (Some (one_more m)) None ≡ Some n → cond t (next m.value (at + m.count + 1)) None ≡ next n.value (at + n.count)
    tested true m e =
        let is = same_Some _ _ e in
        let a : m.value ≡ n.value = ap (λ (r : Number). r.value) is in
        let b : m.count + 1 ≡ n.count = ap (λ (r : Number). r.count) is in
        let d : at + m.count + 1 ≡ at + n.count = omega arith in
        rw (a, d)
    tested false m e = cc

    cases : (m : Option Number) → with_space line at m ≡ Some n → spaced line at m next ≡ next n.value (at + n.count)
    cases None e = cc
    cases (Some m) e = tested (eqb (get_or line (at + m.count) 0) 32) m e

-- The 32 is a byte of the line.
pub spaced-in : (line : List ℕ) (at : ℕ) (n : Number) → spaced_number line at ≡ Some n → at + n.count ≤ length line
unfolding spaced_number with_space
spaced-in line at n e = cases (number_of (drop at line)) e
  where
    inside : (i : ℕ) → get_or line i 0 ≡ 32 → i < length line
    inside i e = ⊎_elim (λ (l : i < length line). l) (λ (l : length line ≤ i). absurd (let a = get_or-eq_default line 0 l in omega arith)) (order i (length line))

    tested : (t : Bool) (m : Number) → eqb (get_or line (at + m.count) 0) 32 ≡ t → cond t (Some (one_more m)) None ≡ Some n → at + n.count ≤ length line
    tested true m a e =
        let b : m.count + 1 ≡ n.count = ap (λ (r : Number). r.count) (same_Some _ _ e) in
        let d = inside (at + m.count) (eqb-true (get_or line (at + m.count) 0) 32 a) in
        omega arith
    tested false m a e = cc

    cases : (m : Option Number) → with_space line at m ≡ Some n → at + n.count ≤ length line
    cases None e = cc
    cases (Some m) e = tested (eqb (get_or line (at + m.count) 0) 32) m refl e

-- The three numbers, as far as they have been read.
pub first-none : (line : List ℕ) → spaced_number line 0 ≡ None → numbers_of line ≡ None
unfolding numbers_of
first-none line e = spaced-none line 0 _ e

pub second_none : (line : List ℕ) (s : Number) → spaced_number line 0 ≡ Some s → spaced_number line s.count ≡ None → numbers_of line ≡ None
unfolding numbers_of
second_none line s e f = spaced-some line 0 s _ e ∙ rw zero-add (spaced-none line s.count _ f)

module _ (line : List ℕ) (s tolerance : Number) (e : spaced_number line 0 ≡ Some s) (f : spaced_number line s.count ≡ Some tolerance) where
  abbrev at : ℕ
  at = s.count + tolerance.count

  third-left : numbers_of line ≡ last line at (number_of (drop at line)) (λ percentile. Some (record { s = s.value; tolerance = tolerance.value; percentile = percentile }))
  unfolding numbers_of
  third-left = spaced-some line 0 s _ e ∙ rw zero-add (spaced-some line s.count tolerance _ f)

  pub third-none : number_of (drop at line) ≡ None → numbers_of line ≡ None
  unfolding last
  third-none g = third-left ∙ rw g

  pub third-other : (percentile : Number) → number_of (drop at line) ≡ Some percentile → (at + percentile.count ≡ length line → ⊥) → numbers_of line ≡ None
  unfolding last
  third-other percentile g d = third-left ∙ rw (g, ne_eqb (at + percentile.count) (length line) d)

  pub all_read : (percentile : Number) → number_of (drop at line) ≡ Some percentile → at + percentile.count ≡ length line
      → numbers_of line ≡ Some (record { s = s.value; tolerance = tolerance.value; percentile = percentile.value })
  unfolding last
  all_read percentile g d = third-left ∙ rw (g, eq-eqb (at + percentile.count) (length line) d)
