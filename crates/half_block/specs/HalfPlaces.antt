-- The halving at places of a flat list.
use Rattle.std.specs.Prelude.{List, ℕ, ◌+◌, ◌*◌, ◌≤◌, get_or}
use Rattle.rules.specs.Greys.{second_smallest}

-- the second smallest of columns k and k + 1 of two rows whose bytes begin at `top` and at `bottom`
unfoldable pub second_at : List ℕ → ℕ → ℕ → ℕ → ℕ
second_at l top bottom k =
    second_smallest
    (get_or l (top + k) 0)
    (get_or l (top + k + 1) 0)
    (get_or l (bottom + k) 0)
    (get_or l (bottom + k + 1) 0)

unfoldable pub even_at : List ℕ → ℕ → ℕ
even_at l k = get_or l (2 * k) 0

-- result k of two rows whose bytes begin at `top` and at `bottom`
unfoldable pub half_at : List ℕ → ℕ → ℕ → ℕ → ℕ
half_at l top bottom k =
    second_smallest
    (get_or l (top + 2 * k) 0)
    (get_or l (top + (2 * k + 1)) 0)
    (get_or l (bottom + 2 * k) 0)
    (get_or l (bottom + (2 * k + 1)) 0)

-- n results of two rows fit: both rows lie in the source, and the results in the destination from place `to` on
pub record RowFits (source top bottom destination to n : ℕ) : Type 0 where
  pub above : top + 2 * n ≤ source
  pub below : bottom + 2 * n ≤ source
  pub room : to + n ≤ destination
