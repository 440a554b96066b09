-- The header that is found is the grammar's, and what Paper 3 of document 02 changed (proved in proofs/GrammarLaws.antt).
use Rattle.std.specs.Prelude.{◌≡◌, Bool, true, not, Option, Some, None, List, ℕ, eqb, get_or, take}
use Rattle.text.specs.Digits.{leading}
use Rattle.p6_whitespace.specs.Whitespace.{Every, is_white, White, hash, WhiteOrComment}
use Rattle.p6_whitespace.specs.Blanks.{whitespace_length}
use Rattle.p6_header.specs.declared.Header.{Header}
use Rattle.p6_header.specs.P6Grammar.{P6}
use Rattle.p6_header.specs.P6Header.{header_of, start_in}

-- what a file tells by the grammar with these blanks: a size and where the raster begins, or that it has no header
abbrev pub Tells : (List ℕ → Type 0) → List ℕ → Option Header → Type 0
Tells Blank file (Some header) = P6 Blank file header.w header.h header.start
Tells Blank file None = (w h start : ℕ) → P6 Blank file w h start → ⊥

-- Every file tells what `header_of` finds in it, and nothing else.
pub record ByGrammar : Type 0 where
  pub told : (file : List ℕ) → Tells WhiteOrComment file (header_of file)
  pub only : (file : List ℕ) (r : Option Header) → Tells WhiteOrComment file r → header_of file ≡ r

abbrev pub no_hash : ℕ → Bool
no_hash b = not (eqb b hash)

-- A header of document 01's grammar is found as that grammar tells it; and on files with no `#` in the header nothing changed: they tell the
-- same by both grammars. Of the definition of `header_of` Paper 3 changed one term, the length of a field's whitespace: it was
-- `leading is_white l`, and still is where no `#` follows these bytes.
pub record AsBefore : Type 0 where
  pub kept : (file : List ℕ) (w h start : ℕ) → P6 White file w h start → header_of file ≡ Some (record { w = w; h = h; start = start })
  pub unchanged : (file : List ℕ) → Every no_hash (take (start_in (header_of file)) file) → Tells White file (header_of file)
  pub whitespace : (l : List ℕ) → no_hash (get_or l (leading is_white l) 0) ≡ true → whitespace_length l ≡ leading is_white l
