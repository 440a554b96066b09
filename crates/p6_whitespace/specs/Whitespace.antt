-- The whitespace of P6 headers as a grammar over bytes: document 01's, and that of Paper 3 of document 02, in which it may hold comments.
use Rattle.std.specs.Prelude.{◌≡◌, Bool, true, not, ◌||◌, List, [], ◌∷◌, ◌++◌, ℕ, eqb}

-- bytes that all pass a test
pub data Every (test : ℕ → Bool) : List ℕ → Type 0 where
  none : Every test []
  next : {b : ℕ} {l : List ℕ} → test b ≡ true → Every test l → Every test (b ∷ l)

-- "the bytes 9, 10, 13 and 32"
unfoldable pub is_white : ℕ → Bool
is_white b = eqb b 9 || (eqb b 10 || (eqb b 13 || eqb b 32))

-- one such byte
pub data White : List ℕ → Type 0 where
  byte : {b : ℕ} → is_white b ≡ true → White (b ∷ [])

-- "a `#` standing where whitespace may stand begins a comment. It runs through the next byte 10 or 13": one that is "cut off by the end of
-- the file" has no `end`, and is none.
abbrev pub hash : ℕ
hash = 0x23

unfoldable pub ends_line : ℕ → Bool
ends_line b = eqb b 10 || eqb b 13

abbrev pub in_line : ℕ → Bool
in_line b = not (ends_line b)

pub record Comment (bytes : List ℕ) : Type 0 where
  pub text : List ℕ
  pub end : ℕ
  pub spelled : bytes ≡ (hash ∷ text) ++ (end ∷ [])
  pub inside : Every in_line text
  pub ends : ends_line end ≡ true

-- "and counts as whitespace"
pub data WhiteOrComment : List ℕ → Type 0 where
  white : {bytes : List ℕ} → White bytes → WhiteOrComment bytes
  comment : {bytes : List ℕ} → Comment bytes → WhiteOrComment bytes

-- "Whitespace is one or more" blanks, one after the other: of document 01's kind, `White`, or of Paper 3's, `WhiteOrComment`.
pub data Whitespace (Blank : List ℕ → Type 0) : List ℕ → Type 0 where
  one : {bytes : List ℕ} → Blank bytes → Whitespace Blank bytes
  more : {bytes rest : List ℕ} → Blank bytes → Whitespace Blank rest → Whitespace Blank (bytes ++ rest)
