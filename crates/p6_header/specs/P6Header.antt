-- The header that is found in a file, piece by piece. That these are the pieces of the grammar, no more and no less, is `ByGrammar`.
use Rattle.std.specs.Prelude.{Bool, ◌&&◌, cond, Option, Some, None, List, ℕ, ◌+◌, eqb, leb, length, get_or, drop}
use Rattle.text.specs.declared.Number.{Number}
use Rattle.text.specs.Digits.{number_of}
use Rattle.p6_whitespace.specs.Whitespace.{is_white}
use Rattle.p6_whitespace.specs.Blanks.{whitespace_length}
use Rattle.p6_header.specs.declared.Header.{Header}

unfoldable pub is_magic : List ℕ → Bool
is_magic file = leb 2 (length file) && (eqb (get_or file 0 0) 0x50 && eqb (get_or file 1 0) 0x36)

-- whitespace and then a number, at the beginning of some bytes: the number, and how many bytes both take
unfoldable pub placed : ℕ → Option Number → Option Number
placed blanks None = None
placed blanks (Some n) = cond (leb 1 blanks) (Some (record { value = n.value; count = blanks + n.count })) None

unfoldable pub field_of : List ℕ → Option Number
field_of l = let blanks = whitespace_length l in placed blanks (number_of (drop blanks l))

-- a field at place `at`, and what follows from its value and from the place after it; without it there is no header
unfoldable pub after : ℕ → Option Number → (ℕ → ℕ → Option Header) → Option Header
after at None next = None
after at (Some n) next = next n.value (at + n.count)

-- "255, exactly one whitespace byte, raster"
unfoldable pub ending : List ℕ → ℕ → ℕ → ℕ → ℕ → Option Header
ending file w h largest at = cond (eqb largest 255 && is_white (get_or file at 0)) (Some (record { w = w; h = h; start = at + 1 })) None

unfoldable pub fields : List ℕ → Option Header
fields file =
    after 2 (field_of (drop 2 file)) (λ w at1.
    after at1 (field_of (drop at1 file)) (λ h at2.
    after at2 (field_of (drop at2 file)) (λ largest at3. ending file w h largest at3)))

unfoldable pub header_of : List ℕ → Option Header
header_of file = cond (is_magic file) (fields file) None

-- where the raster begins
unfoldable pub start_in : Option Header → ℕ
start_in None = 0
start_in (Some header) = header.start
