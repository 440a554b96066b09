-- Decimal numbers as bytes: how document 01's files and lines spell them.
use Rattle.std.specs.Prelude.{Bool, ◌&&◌, cond, Option, Some, None, List, [], ◌∷◌, ◌++◌, ℕ, zero, suc, ◌+◌, ◌*◌, ◌-◌, ◌/◌, ◌%◌, ltb, leb, take}
use Rattle.text.specs.declared.Number.{Number}

-- the code of the digit d, and back
abbrev pub zero_code : ℕ
zero_code = 48

unfoldable pub is_digit : ℕ → Bool
is_digit b = leb zero_code b && leb b (zero_code + 9)

-- how many bytes, from the first one on, pass a test
unfoldable pub leading : (ℕ → Bool) → List ℕ → ℕ
leading p [] = 0
leading p (b ∷ l) = cond (p b) (suc (leading p l)) 0

-- the number that digits spell after those that spell v, the first one the most significant
unfoldable pub decimal : ℕ → List ℕ → ℕ
decimal v [] = v
decimal v (d ∷ l) = decimal (10 * v + (d - zero_code)) l

-- "A number has one to nine decimal digits; leading zeros are allowed and count among the nine, so 0255 is 255."
-- The number that bytes begin with, and how many bytes it takes: all digits up to the first byte that is none.
unfoldable pub number_of : List ℕ → Option Number
number_of l = let n = leading is_digit l in cond (leb 1 n && leb n 9) (Some (record { value = decimal 0 (take n l); count = n })) None

-- the last digits of n, k at most, "no leading zeros"
unfoldable pub last_digits : ℕ → ℕ → List ℕ
last_digits zero n = []
last_digits (suc k) n = cond (ltb n 10) ((zero_code + n) ∷ []) (last_digits k (n / 10) ++ ((zero_code + n % 10) ∷ []))

-- a 32-bit number in decimal digits, "no leading zeros": ten are enough for every one
unfoldable pub digits : ℕ → List ℕ
digits n = last_digits 10 n
