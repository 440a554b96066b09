-- The bytes of 32 pixels: as they stand in a raster, brought together by colour, and weighed.
use Rattle.std.specs.Prelude.{List, ℕ, ◌+◌, ◌*◌, ◌/◌, ◌%◌, get_or}
use Rattle.rules.specs.Greys.{grey}

-- byte k of those from place `from` on
unfoldable pub byte_from : List ℕ → ℕ → ℕ → ℕ
byte_from l from k = get_or l (from + k) 0

-- byte i of a perfect shuffle of 96: those of the first half and of the second by turns
unfoldable pub shuffled_at : List ℕ → ℕ → ℕ
shuffled_at l i = get_or l (i / 2 + 48 * (i % 2)) 0

-- byte i of 32 pixels' bytes by colour: the reds, then the greens, then the blues
unfoldable pub plane_at : List ℕ → ℕ → ℕ
plane_at l i = get_or l (3 * (i % 32) + i / 32) 0

-- the grey value of pixel i of 32 whose bytes lie by colour
unfoldable pub weighed_at : List ℕ → ℕ → ℕ
weighed_at l i = grey (get_or l i 0) (get_or l (32 + i) 0) (get_or l (64 + i) 0)
