-- Headers with comments, and what is found in them, computed (proved in proofs/ExampleLaws.antt).
use Rattle.std.specs.Prelude.{◌≡◌, Some, None, List, [], ◌∷◌, ◌++◌, ℕ}
use Rattle.p6_header.specs.P6Grammar.{magic}
use Rattle.p6_header.specs.P6Header.{header_of}

-- `P6`, `2`, `1` and `255`, with something after each of them
abbrev pub spelling : List ℕ → List ℕ → List ℕ → List ℕ → List ℕ
spelling a b c d = magic ++ a ++ (50 ∷ []) ++ b ++ (49 ∷ []) ++ c ++ (50 ∷ 53 ∷ 53 ∷ []) ++ d

-- a line feed, a carriage return and a space; `# gain 120`
abbrev pub lf : List ℕ
lf = 10 ∷ []

abbrev pub cr : List ℕ
cr = 13 ∷ []

abbrev pub space : List ℕ
space = 32 ∷ []

abbrev pub gain : List ℕ
gain = 35 ∷ 32 ∷ 103 ∷ 97 ∷ 105 ∷ 110 ∷ 32 ∷ 49 ∷ 50 ∷ 48 ∷ []

pub record HeaderExamples : Type 0 where
  -- a line of its own, as capture programs write it
  pub line : header_of (spelling (lf ++ gain ++ lf) space lf lf) ≡ Some (record { w = 2; h = 1; start = 22 })
  -- comments alone between the fields, whichever byte ends them
  pub alone : header_of (spelling (gain ++ cr) (gain ++ lf) (gain ++ lf) lf) ≡ Some (record { w = 2; h = 1; start = 41 })
  -- after 255 there is no comment, and after the one byte of whitespace a `#` belongs to the raster
  pub after255 : header_of (spelling lf space lf (gain ++ lf)) ≡ None
  pub in_raster : header_of (spelling lf space lf (space ++ gain)) ≡ Some (record { w = 2; h = 1; start = 11 })
  -- a comment that no byte 10 or 13 ends, though all that a header needs stands in it: `2 1 #255` and a space
  pub cut_off : header_of (spelling lf space (space ++ (35 ∷ [])) space) ≡ None
  -- a comment ends a number: here the width is 2, the height 1 and the largest value 1
  pub in_number : header_of (spelling lf (gain ++ lf ++ (49 ∷ []) ++ space) lf lf) ≡ None
