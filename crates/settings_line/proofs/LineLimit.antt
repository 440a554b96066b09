-- How much of an input the settings line needs: a longer one says nothing else.
use mathlib.Core.Path.{◌≡◌, refl, sym, ap, ◌∙◌}
use mathlib.Core.Logic.{⊎_elim}
use mathlib.Core.Bool.{Bool, true, false, not, cond}
use mathlib.Core.List.{List, [], ◌∷◌}
use Prim.Native.Nat.{ℕ, zero, suc, ◌+◌, ◌≤◌, ◌<◌, min}
use native.Mathlib.Nat.{zero-min, min-zero, suc-min-suc}
use native.Mathlib.Omega.{arith}
use lib.Dec.{eqb}
use Rattle.std.proofs.Common.{Option, Some, None}
use lib.ListN.{length, get_or, take, drop, length-take}
use lib.Seq.{take-take}
use borrow.Author.Tests.{eqb-true}
use Rattle.rules.proofs.SumLaws.{order}
use Rattle.text.specs.declared.Number.{Number}
use Rattle.text.specs.Digits.{leading, number_of}
use Rattle.text.proofs.ReadLaws.{leading-in, read_ok}
use Rattle.settings_line.specs.declared.Settings.{Settings}
use Rattle.settings_line.specs.SettingsLine.{line_of, spaced, last, numbers_of, settings_of}

-- "The longest good line has 29 bytes, so a 30th is looked at."
spaced-none : (line : List ℕ) (at : ℕ) (m : Option Number) (next : ℕ → ℕ → Option Settings)
    → ((n : Number) → m ≡ Some n → next n.value (at + n.count + 1) ≡ None) → spaced line at m next ≡ None
unfolding spaced
spaced-none line at None next bad = refl
spaced-none line at (Some n) next bad = tested (eqb (get_or line (at + n.count) 0) 32)
  where
    tested : (t : Bool) → cond t (next n.value (at + n.count + 1)) None ≡ None
    tested true = bad n refl
    tested false = refl

last-none : (line : List ℕ) (at : ℕ) (m : Option Number) (next : ℕ → Option Settings)
    → ((n : Number) → m ≡ Some n → at + n.count < length line) → last line at m next ≡ None
unfolding last
last-none line at None next short = refl
last-none line at (Some n) next short = tested (eqb (at + n.count) (length line)) refl
  where
    tested : (t : Bool) → eqb (at + n.count) (length line) ≡ t → cond t (next n.value) None ≡ None
    tested true e = absurd (let a = eqb-true (at + n.count) (length line) e in let b = short n refl in omega arith)
    tested false e = refl

long-none : (line : List ℕ) → 30 ≤ length line → numbers_of line ≡ None
unfolding numbers_of
long-none line long =
    spaced-none line 0 (number_of line) _ (λ s e1.
    spaced-none line (0 + s.count + 1) (number_of (drop (0 + s.count + 1) line)) _ (λ tolerance e2.
    last-none line (0 + s.count + 1 + tolerance.count + 1) (number_of (drop (0 + s.count + 1 + tolerance.count + 1) line)) _ (λ percentile e3.
    let a = read_ok line s e1 in
    let b = read_ok (drop (0 + s.count + 1) line) tolerance e2 in
    let c = read_ok (drop (0 + s.count + 1 + tolerance.count + 1) line) percentile e3 in
    omega arith)))

leading-take : (p : ℕ → Bool) (k : ℕ) (l : List ℕ) → leading p (take k l) ≡ min k (leading p l)
unfolding leading
leading-take p zero l = sym (zero-min (leading p l))
leading-take p (suc k) [] = sym (min-zero (suc k))
leading-take p (suc k) (b ∷ l) = tested (p b) (leading-take p k l)
  where
    tested : (t : Bool) → leading p (take k l) ≡ min k (leading p l)
        → cond t (suc (leading p (take k l))) 0 ≡ min (suc k) (cond t (suc (leading p l)) 0)
    tested true e = ap suc e ∙ sym (suc-min-suc k (leading p l))
    tested false e = sym (min-zero (suc k))

abbrev pub in_line : ℕ → Bool
in_line b = not (eqb b 10)

-- what follows the byte 10 of the first line is not looked at
pub settings-ended : (input : List ℕ) (m : ℕ) → leading in_line input < m → settings_of (take m input) ≡ settings_of input
unfolding settings_of line_of
settings-ended input m l =
    let n : ℕ = leading in_line input in
    let e : leading in_line (take m input) ≡ n = leading-take in_line m input ∙ omega arith in
    ap (λ (k : ℕ). numbers_of (take k (take m input))) e ∙ ap numbers_of (take-take n m input (omega arith))

-- nor is anything past 30 bytes
pub settings-within : (input : List ℕ) → settings_of (take 30 input) ≡ settings_of input
unfolding settings_of line_of
settings-within input = ⊎_elim (settings-ended input 30) far (order n 30)
  where
    n : ℕ
    n = leading in_line input

    far : 30 ≤ n → numbers_of (take (leading in_line (take 30 input)) (take 30 input)) ≡ numbers_of (take n input)
    far l =
        let a = leading-in in_line input in
        let b = leading-take in_line 30 input in
        let c = length-take 30 input in
        let d = length-take (leading in_line (take 30 input)) (take 30 input) in
        let e = length-take n input in
        long-none (take (leading in_line (take 30 input)) (take 30 input)) (omega arith) ∙ sym (long-none (take n input) (omega arith))
