-- The lines that the program `bracket` prints, byte for byte.
use Rattle.std.specs.Prelude.{List, [], ◌∷◌, ◌++◌, ℕ, zero, suc, ℤ, pos, negsuc, take, drop}
use Rattle.text.specs.Digits.{digits}
use Rattle.rules.specs.Levels.{Aligned}

-- "Every line ends with a byte 10."
abbrev pub end_line : List ℕ
end_line = 10 ∷ []

-- "A line that isn't three numbers … prints only `settings`"
abbrev pub settings_text : List ℕ
settings_text = (115 ∷ 101 ∷ 116 ∷ 116 ∷ 105 ∷ 110 ∷ 103 ∷ 115 ∷ []) ++ end_line

-- "A refusal prints only `refused`, a 32 and its number"
abbrev pub refused_text : ℕ → List ℕ
refused_text n = (114 ∷ 101 ∷ 102 ∷ 117 ∷ 115 ∷ 101 ∷ 100 ∷ 32 ∷ []) ++ digits n ++ end_line

-- a signed number, with `-` before it when negative
unfoldable pub signed : ℤ → List ℕ
signed (pos n) = digits n
signed (negsuc n) = 45 ∷ digits (suc n)

-- "offset dx dy"
abbrev pub offset_text : ℤ → ℤ → List ℕ
offset_text dx dy = (111 ∷ 102 ∷ 102 ∷ 115 ∷ 101 ∷ 116 ∷ 32 ∷ []) ++ signed dx ++ (32 ∷ []) ++ signed dy ++ end_line

-- counts, each after a 32
unfoldable pub counts_text : List ℕ → List ℕ
counts_text [] = []
counts_text (c ∷ l) = (32 ∷ []) ++ digits c ++ counts_text l

-- "a line a level, coarsest first, the number of halvings before the colon, the nine counts after it"
abbrev pub level_text : ℕ → List ℕ → List ℕ
level_text halvings counts = digits halvings ++ (58 ∷ []) ++ counts_text (take 9 counts) ++ end_line

unfoldable pub levels_text : ℕ → List ℕ → List ℕ
levels_text zero counts = level_text zero counts
levels_text (suc s) counts = level_text (suc s) counts ++ levels_text s (drop 9 counts)

abbrev pub aligned_text : ℕ → Aligned → List ℕ
aligned_text s r = offset_text r.offset.dx r.offset.dy ++ levels_text s r.counts
