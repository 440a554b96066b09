-- P6 files (Netpbm, document "ppm") as a grammar over bytes. What counts as whitespace is a parameter: by document 01 `White`, by Paper 3 of
-- document 02 `WhiteOrComment` (`p6_whitespace`: `Whitespace`).
use Rattle.std.specs.Prelude.{◌≡◌, true, List, [], ◌∷◌, ◌++◌, ℕ, ◌+◌, ◌≤◌, length}
use Rattle.text.specs.Digits.{is_digit, decimal}
use Rattle.p6_whitespace.specs.Whitespace.{Every, is_white, Whitespace}

-- "the bytes 50 36 hexadecimal, "P6""
abbrev pub magic : List ℕ
magic = 0x50 ∷ 0x36 ∷ []

-- "A number has one to nine decimal digits; leading zeros are allowed and count among the nine, so 0255 is 255."
pub record Spells (value : ℕ) (bytes : List ℕ) : Type 0 where
  pub digits : Every is_digit bytes
  pub least : 1 ≤ length bytes
  pub most : length bytes ≤ 9
  pub is : value ≡ decimal 0 bytes

-- Whitespace and then a number. "From the end of `P6` to the first digit of the largest value" there are three such fields.
pub record Field (Blank : List ℕ → Type 0) (value : ℕ) (bytes : List ℕ) : Type 0 where
  pub blanks : List ℕ
  pub number : List ℕ
  pub spelled : bytes ≡ blanks ++ number
  pub whitespace : Whitespace Blank blanks
  pub spells : Spells value number

-- "the file begins with the bytes 50 36 hexadecimal, "P6"; then whitespace, width, whitespace, height, whitespace, 255, exactly one
-- whitespace byte, raster": a file whose header tells this size, and whose raster begins at place `start`. `width`, `height` and `largest`
-- are the fields, each with its whitespace; the one byte after them is never a comment.
pub record P6 (Blank : List ℕ → Type 0) (file : List ℕ) (w h start : ℕ) : Type 0 where
  pub width : List ℕ
  pub height : List ℕ
  pub largest : List ℕ
  pub white : ℕ
  pub raster : List ℕ
  pub spelled : file ≡ magic ++ width ++ height ++ largest ++ (white ∷ []) ++ raster
  pub is_width : Field Blank w width
  pub is_height : Field Blank h height
  pub is255 : Field Blank 255 largest
  pub is_one : is_white white ≡ true
  pub begins : start + length raster ≡ length file
