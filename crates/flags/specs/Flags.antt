-- Both bits of a pixel are one test: a grey value lies outside an interval. Flags tell how it came out, each held as a weight.
use Rattle.std.specs.Prelude.{◌≡◌, ◌||◌, List, ℕ, ◌+◌, ◌*◌, ◌/◌, ◌^◌, ◌<◌, ltb, get_or}
use Rattle.rules.specs.Sums.{gate, one_if}

-- 1 where v lies outside lo..hi, both included
unfoldable pub outside_bit : ℕ → ℕ → ℕ → ℕ
outside_bit lo hi v = one_if (ltb v lo || ltb hi v)

-- flag i of the n pixels of a grey list from place `at` on, 0 from n on
unfoldable pub flag_at : ℕ → ℕ → List ℕ → ℕ → ℕ → ℕ → ℕ
flag_at lo hi grey at n i = gate (ltb i n) (outside_bit lo hi (get_or grey (at + i) 0))

-- the flags f i, each 0 or 1, held as 0 or a weight: flag i as bit i / 8 of byte i
pub record Weighed (f : ℕ → ℕ) (bytes : List ℕ) : Type 0 where
  pub flag : (i : ℕ) → i < 64 → f i < 2
  pub held : (i : ℕ) → i < 64 → get_or bytes i 0 ≡ f i * 2 ^ (i / 8)
