-- Frames and the lists that hold them.
use Rattle.std.specs.Prelude.{◌≡◌, List, [], ◌∷◌, ◌++◌, ℕ, zero, suc, ◌+◌, ◌*◌, ◌<◌, length, get_or, drop}

-- "Pixel (x,y) counts from 0, x to the right, y down." Width and height stand beside a frame.
abbrev pub Frame : Type 0
Frame = ℕ → ℕ → ℕ

-- two frames with the same number at every pixel
abbrev pub SameFrame : ℕ → ℕ → Frame → Frame → Type 0
SameFrame w h f g = (x y : ℕ) → x < w → y < h → f x y ≡ g x y

-- the frame of width w that a list holds, "rows from the top"
unfoldable pub frame_of : ℕ → List ℕ → Frame
frame_of w l x y = get_or l (y * w + x) 0

-- f 0, f 1, …, f (n − 1)
unfoldable pub row : ℕ → (ℕ → ℕ) → List ℕ
row zero f = []
row (suc n) f = row n f ++ (f n ∷ [])

-- the numbers of a frame of w by h, rows from the top
unfoldable pub rows : ℕ → ℕ → Frame → List ℕ
rows w zero f = []
rows w (suc h) f = rows w h f ++ row w (λ x. f x h)

-- what a lent buffer holds once an output is written at its beginning: "if longer, the excess is untouched"
abbrev pub written_over : {A : Type 0} → List A → List A → List A
written_over out lent = out ++ drop (length out) lent
