-- What sides within their limits bound.
use Prim.Native.Nat.{ℕ, ◌≤◌}
use native.Mathlib.Nat.{mul-le-mul}
use native.Mathlib.Omega.{arith}
use Rattle.rules.specs.Bitmaps.{row_words}
use Rattle.rules.specs.Accepted.{SizeOk}
use Rattle.level_planes.specs.FrameSides.{Sides}

row-le : (w : ℕ) → w ≤ 4096 → row_words w ≤ 64
unfolding row_words
row-le w l = omega arith

pub sized : (w h : ℕ) → Sides w h → SizeOk w h
sized w h s = record {
  wide = s.wide;
  width = s.width;
  high = s.high;
  height = s.height;
  area = mul-le-mul s.width s.height;
  row_of_words = row-le w s.width;
  bitmap = mul-le-mul (row-le w s.width) s.height;
}
