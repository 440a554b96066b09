-- How long the whitespace is that some bytes begin with, blank by blank: a blank is a byte of whitespace or a comment.
use Rattle.std.specs.Prelude.{cond, List, ℕ, zero, suc, ◌+◌, eqb, ltb, leb, length, get_or, drop}
use Rattle.text.specs.Digits.{leading}
use Rattle.p6_whitespace.specs.Whitespace.{is_white, hash, in_line}

-- How many bytes a comment takes, "through the next byte 10 or 13"; 0 where it is "cut off by the end of the file".
unfoldable pub comment_length : List ℕ → ℕ
comment_length l = let n = leading in_line l in cond (ltb n (length l)) (n + 1) 0

-- how many bytes the first blank takes, a byte of whitespace or a comment; 0 where the bytes begin with none
unfoldable pub blank_length : List ℕ → ℕ
blank_length l = cond (is_white (get_or l 0 0)) 1 (cond (eqb (get_or l 0 0) hash) (comment_length l) 0)

-- how many bytes the first k blanks take, or as many as there are
unfoldable pub blanks_length : ℕ → List ℕ → ℕ
blanks_length zero l = 0
blanks_length (suc k) l = let n = blank_length l in cond (leb 1 n) (n + blanks_length k (drop n l)) 0

-- how many bytes all blanks at the beginning take: there are no more of them than bytes
unfoldable pub whitespace_length : List ℕ → ℕ
whitespace_length l = blanks_length (length l) l
