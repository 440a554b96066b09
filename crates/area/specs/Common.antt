-- Common area of N offsets: "columns from max(0, all dx) up to, not including, min(w, all w+dx); rows likewise".
use Rattle.std.specs.Prelude.{Bool, ◌||◌, not, cond, false, List, [], ◌∷◌, ℕ, zero, suc, ◌+◌, ◌*◌, ℤ, pos, negsuc, nat_abs, ◌+ℤ◌, length, get_or, Result, Ok, Err}
use Rattle.rules.specs.Answers.{answer_for}
use Rattle.std.specs.Int.Signed.{lt_z}
use Rattle.rules.specs.Refusals.{◌when◌, ◌or_else◌, bad_size, bad_frames, wrong_length}
use Rattle.area.specs.declared.Area.{Area}

-- dx and dy of frame k: "2·N signed 32-bit numbers, dx before dy"
abbrev pub dx_of : List ℤ → ℕ → ℤ
dx_of offsets k = get_or offsets (2 * k) (pos 0)

abbrev pub dy_of : List ℤ → ℕ → ℤ
dy_of offsets k = get_or offsets (2 * k + 1) (pos 0)

unfoldable pub larger : ℤ → ℤ → ℤ
larger a b = cond (lt_z a b) b a

unfoldable pub smaller : ℤ → ℤ → ℤ
smaller a b = cond (lt_z b a) b a

-- max(0, all d): the first column or row that every frame has
unfoldable pub low_side : ℕ → (ℕ → ℤ) → ℤ
low_side zero d = pos 0
low_side (suc n) d = larger (low_side n d) (d n)

-- min(side, all side + d): the one after the last that every frame has
unfoldable pub high_side : ℕ → ℕ → (ℕ → ℤ) → ℤ
high_side side zero d = pos side
high_side side (suc n) d = smaller (high_side side n d) (pos side +ℤ d n)

-- 12. "A common-area offset is outside −32768 to 32767."
unfoldable pub outside : ℤ → Bool
outside z = lt_z z (negsuc 32767) || lt_z (pos 32767) z

unfoldable pub some_outside : List ℤ → Bool
some_outside [] = false
some_outside (z ∷ l) = outside z || some_outside l

-- 13. "The common area has no column or no row."
unfoldable pub nothing_common : ℕ → ℕ → ℕ → List ℤ → Bool
nothing_common w h n offsets =
    not (lt_z (low_side n (dx_of offsets)) (high_side w n (dx_of offsets)))
    || not (lt_z (low_side n (dy_of offsets)) (high_side h n (dy_of offsets)))

unfoldable pub area_refusal : ℕ → ℕ → ℕ → List ℤ → ℕ
area_refusal w h n offsets =
    2 when bad_size w h
    or_else 6 when bad_frames n
    or_else 9 when wrong_length (2 * n) (length offsets)
    or_else 12 when some_outside offsets
    or_else 13 when nothing_common w h n offsets

-- where no number applies, none of the four is negative
unfoldable pub common_area : ℕ → ℕ → ℕ → List ℤ → Area
common_area w h n offsets =
    record {
      left = nat_abs (low_side n (dx_of offsets));
      right = nat_abs (high_side w n (dx_of offsets));
      top = nat_abs (low_side n (dy_of offsets));
      bottom = nat_abs (high_side h n (dy_of offsets));
    }

abbrev pub area_answer : ℕ → ℕ → ℕ → List ℤ → Result Area ℕ
area_answer w h n offsets = answer_for (area_refusal w h n offsets) (common_area w h n offsets)
