-- Document 01's printed case to the byte: the two files, the line `0 0 50`, and what `bracket` prints; then the same from files with a comment.
use Rattle.std.specs.Prelude.{◌≡◌, List, [], ◌∷◌, ◌++◌, ℕ}
use Rattle.rules.specs.Examples.{first_rows, second_rows, colourless}
use Rattle.report.specs.Output.{bracket_output}

-- `0 0 50` and a byte 10
abbrev pub printed_line : List ℕ
printed_line = 48 ∷ 32 ∷ 48 ∷ 32 ∷ 53 ∷ 48 ∷ 10 ∷ []

-- a file of 4 by 4 "with R=G=B": `P6`, `4 4` and `255`, each with a byte 10 after it, and the raster
abbrev pub file_of : List ℕ → List ℕ
file_of rows = (80 ∷ 54 ∷ 10 ∷ 52 ∷ 32 ∷ 52 ∷ 10 ∷ 50 ∷ 53 ∷ 53 ∷ 10 ∷ []) ++ colourless rows

abbrev pub first_file : List ℕ
first_file = file_of (first_rows 10 20 90)

abbrev pub second_file : List ℕ
second_file = file_of (second_rows 10 20 90)

-- `offset -1 -1` and `0: 0 0 0 5 7 6 8 10 8`: "Every line ends with a byte 10."
abbrev pub printed_bytes : List ℕ
printed_bytes =
    (111 ∷ 102 ∷ 102 ∷ 115 ∷ 101 ∷ 116 ∷ 32 ∷ 45 ∷ 49 ∷ 32 ∷ 45 ∷ 49 ∷ 10 ∷ [])
    ++ (48 ∷ 58 ∷ 32 ∷ 48 ∷ 32 ∷ 48 ∷ 32 ∷ 48 ∷ 32 ∷ 53 ∷ 32 ∷ 55 ∷ 32 ∷ 54 ∷ 32 ∷ 56 ∷ 32 ∷ 49 ∷ 48 ∷ 32 ∷ 56 ∷ 10 ∷ [])

-- the same files with a comment in the header: `P6`, the line `# gain 120`, `4 4` and `255`
abbrev pub commented_of : List ℕ → List ℕ
commented_of rows =
    (80 ∷ 54 ∷ 10 ∷ [])
    ++ (35 ∷ 32 ∷ 103 ∷ 97 ∷ 105 ∷ 110 ∷ 32 ∷ 49 ∷ 50 ∷ 48 ∷ 10 ∷ [])
    ++ (52 ∷ 32 ∷ 52 ∷ 10 ∷ 50 ∷ 53 ∷ 53 ∷ 10 ∷ [])
    ++ colourless rows

-- (proved in proofs/PrintedCaseLaws.antt)
pub record PrintedCase : Type 0 where
  pub plain : bracket_output printed_line first_file second_file ≡ printed_bytes
  -- document 02, Paper 3
  pub commented : bracket_output printed_line (commented_of (first_rows 10 20 90)) (commented_of (second_rows 10 20 90)) ≡ printed_bytes
