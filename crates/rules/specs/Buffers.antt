-- What a loop that writes into a buffer keeps: what it has written and, of a lent one, that nothing else has changed.
use Rattle.std.specs.Prelude.{◌≡◌, List, ℕ, ◌+◌, ◌*◌, ◌≤◌, ◌<◌, length, get_or}
use Rattle.rules.specs.Frames.{Frame}

-- What a loop over one row keeps: the first n numbers from place `to` on are f's, and nothing else has changed.
pub record RowAt (to : ℕ) (f : ℕ → ℕ) (before : List ℕ) (n : ℕ) (after : List ℕ) : Type 0 where
  pub len : length after ≡ length before
  pub under : (m : ℕ) → m < to → get_or after m 0 ≡ get_or before m 0
  pub done : (k : ℕ) → k < n → get_or after (to + k) 0 ≡ f k
  pub over : (m : ℕ) → to + n ≤ m → get_or after m 0 ≡ get_or before m 0

-- What a loop over rows keeps: the first y rows of w numbers from place `to` on are the frame's, and nothing else has changed.
pub record FrameAt (to w : ℕ) (f : Frame) (before : List ℕ) (y : ℕ) (after : List ℕ) : Type 0 where
  pub len : length after ≡ length before
  pub under : (m : ℕ) → m < to → get_or after m 0 ≡ get_or before m 0
  pub done : (x z : ℕ) → x < w → z < y → get_or after (to + (z * w + x)) 0 ≡ f x z
  pub over : (m : ℕ) → to + y * w ≤ m → get_or after m 0 ≡ get_or before m 0

-- What a loop that fills a local array keeps: the first n numbers are f's.
pub record Filled (f : ℕ → ℕ) (n : ℕ) (l : List ℕ) : Type 0 where
  pub done : (k : ℕ) → k < n → get_or l k 0 ≡ f k
