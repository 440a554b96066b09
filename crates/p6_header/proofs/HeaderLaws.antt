-- Laws of headers: what a good one says of its file.
use mathlib.Core.Path.{◌≡◌, refl}
use mathlib.Core.Bool.{Bool, true, false, ◌&&◌, cond, false≢true}
use mathlib.Core.List.{List, [], ◌∷◌, ◌++◌}
use Prim.Native.Nat.{ℕ, suc, ◌+◌, ◌≤◌}
use native.Mathlib.Omega.{arith}
use lib.Dec.{eqb, leb}
use Rattle.std.specs.List.{starts_with}
use Rattle.std.proofs.lemmas.Bool.Decides.{nat_tests}
use Rattle.std.proofs.Common.{Option, Some, None}
use lib.ListN.{length, get_or, drop}
use borrow.Author.Tests.{le-leb, leb-true}
use Rattle.text.specs.declared.Number.{Number}
use Rattle.p6_header.specs.declared.Header.{Header}
use Rattle.p6_whitespace.specs.Whitespace.{is_white}
use Rattle.p6_header.specs.P6Grammar.{magic}
use Rattle.p6_header.specs.P6Header.{is_magic, field_of, after, ending, fields, header_of, start_in}
use Rattle.p6_whitespace.proofs.BlankLaws.{white-within}

pub magic-long : (file : List ℕ) → is_magic file ≡ true → 2 ≤ length file
unfolding is_magic
magic-long file e = leb-true 2 (length file) (first (leb 2 (length file)) _ e)
  where
    first : (t u : Bool) → t && u ≡ true → t ≡ true
    first true u e = refl
    first false u e = absurd (false≢true e)

pub magic-begins : (l : List ℕ) → is_magic (magic ++ l) ≡ true
unfolding is_magic
magic-begins l = rw (le-leb 2 (suc (suc (length l))) (omega arith))

eqb-turned : (a b : ℕ) → eqb a b ≡ eqb b a
eqb-turned a b = grind (arith, nat_tests)

-- std's word for a beginning
pub magic-starts : (file : List ℕ) → starts_with eqb file magic ≡ is_magic file
unfolding is_magic
magic-starts [] = refl
magic-starts (a ∷ []) = split (eqb 0x50 a)
  where
    split : (t : Bool) → t && false ≡ false
    split true = refl
    split false = refl
magic-starts (a ∷ b ∷ l) =
    rw (le-leb 2 (suc (suc (length l))) (omega arith), eqb-turned a 0x50, eqb-turned b 0x36) (split (eqb 0x50 a) (eqb 0x36 b))
  where
    split : (t u : Bool) → t && (u && true) ≡ t && u
    split true true = refl
    split true false = refl
    split false u = refl

-- The raster begins in the file or at its end.
ending-within : (file : List ℕ) (w h largest at : ℕ) → start_in (ending file w h largest at) ≤ length file
unfolding ending start_in
ending-within file w h largest at = split (eqb largest 255) (is_white (get_or file at 0)) refl
  where
    split : (t u : Bool) → is_white (get_or file at 0) ≡ u → start_in (cond (t && u) (Some (record { w = w; h = h; start = at + 1 })) None) ≤ length file
    split true true e = omega (arith, white-within file at e)
    split true false e = omega arith
    split false u e = omega arith

after-within : (at : ℕ) (n : Option Number) (next : ℕ → ℕ → Option Header) (k : ℕ) → ((value place : ℕ) → start_in (next value place) ≤ k) → start_in (after at n next) ≤ k
unfolding after start_in
after-within at None next k l = omega arith
after-within at (Some n) next k l = l n.value (at + n.count)

pub start-within : (file : List ℕ) → start_in (header_of file) ≤ length file
unfolding header_of fields start_in
start-within file = split (is_magic file)
  where
    split : (t : Bool) → start_in (cond t (fields file) None) ≤ length file
    split true =
        after-within 2 (field_of (drop 2 file)) _ (length file) (λ w at1.
        after-within at1 (field_of (drop at1 file)) _ (length file) (λ h at2.
        after-within at2 (field_of (drop at2 file)) _ (length file) (λ largest at3. ending-within file w h largest at3)))
    split false = omega arith

pub good-within : (file : List ℕ) (header : Header) → header_of file ≡ Some header → header.start ≤ length file
unfolding start_in
good-within file header e = rw e at (start-within file)
