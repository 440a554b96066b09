-- The grey conversion at places of a flat list.
use Rattle.std.specs.Prelude.{List, ℕ, ◌+◌, ◌*◌, get_or}
use Rattle.rules.specs.Greys.{grey}

-- the grey value of pixel i of a raster, counted flat
unfoldable pub grey_at : List ℕ → ℕ → ℕ
grey_at raster i = grey (get_or raster (3 * i) 0) (get_or raster (3 * i + 1) 0) (get_or raster (3 * i + 2) 0)

-- the grey value of pixel i of those whose bytes begin at place `from`
unfoldable pub grey_from : List ℕ → ℕ → ℕ → ℕ
grey_from raster from i = grey (get_or raster (from + 3 * i) 0) (get_or raster (from + 3 * i + 1) 0) (get_or raster (from + 3 * i + 2) 0)

unfoldable pub number_at : List ℕ → ℕ → ℕ
number_at l k = get_or l k 0
