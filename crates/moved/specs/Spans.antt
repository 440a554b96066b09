-- The moved frame as its rows are written: each axis by the span of places that come from inside.
use Rattle.std.specs.Prelude.{◌≡◌, ◌&&◌, List, ℕ, ◌+◌, ◌*◌, ◌-◌, ◌/◌, ◌%◌, ◌≤◌, ◌<◌, leb, ltb, ℤ, pos, ◌-ℤ◌, get_or}
use Rattle.rules.specs.Limits.{max_side}
use Rattle.rules.specs.Sums.{gate}
use Rattle.rules.specs.Frames.{Frame}
use Rattle.rules.specs.Planes.{within}
use Rattle.moved.specs.declared.clipping.Span.{Span}
use Rattle.moved.specs.Moved.{channel}

-- place x of a side on which the span of f is laid, 0 outside the span
unfoldable pub laid : Span → (ℕ → ℕ) → ℕ → ℕ
laid s f x = gate (leb s.to x && ltb x (s.to + s.count)) (f (s.from + (x - s.to)))

-- a span lies in a side of n places, where it comes from and where it goes to
pub record Inside (n : ℕ) (s : Span) : Type 0 where
  pub room : s.to + s.count ≤ n
  pub source : s.from + s.count ≤ n

-- the span of a side of n places that is moved by d
pub record Clipped (n : ℕ) (d : ℤ) (s : Span) : Type 0 where
  pub inside : Inside n s
  pub moved : (x : ℕ) → x < n → (f : ℕ → ℕ) → within n (pos x -ℤ d) f ≡ laid s f x

-- byte i of a row whose source is the raster's row z
unfoldable pub laid_byte : ℕ → List ℕ → Span → ℕ → ℕ → ℕ
laid_byte w raster columns z i = laid columns (λ x. channel w raster (i % 3) x z) (i / 3)

-- byte i of row y
unfoldable pub placed_byte : ℕ → List ℕ → Span → Span → Frame
placed_byte w raster columns rows i y = laid columns (λ x. laid rows (λ z. channel w raster (i % 3) x z) y) (i / 3)

abbrev pub placed_row : ℕ → List ℕ → Span → Span → ℕ → ℕ → ℕ
placed_row w raster columns rows y i = placed_byte w raster columns rows i y

abbrev pub zeros : ℕ → ℕ
zeros k = 0

unfoldable pub bytes_from : List ℕ → ℕ → ℕ → ℕ
bytes_from l from k = get_or l (from + k) 0

-- what the rows' functions may assume of sizes and lengths
pub record Sized (w h raster out : ℕ) : Type 0 where
  pub width : w ≤ max_side
  pub height : h ≤ max_side
  pub area : w * h ≤ max_side * max_side
  pub exact : raster ≡ 3 * (w * h)
  pub room : 3 * (w * h) ≤ out
