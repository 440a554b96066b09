-- Laws of the lists of offsets: how large a frame's offset is, offsets written one after another and read again.
use mathlib.Core.Path.{◌≡◌, sym, ap, ap₂, ◌∙◌}
use mathlib.Core.List.{List, [], ◌∷◌, ◌++◌}
use Prim.Native.Nat.{ℕ, ◌+◌, ◌*◌, ◌≤◌, ◌<◌}
use native.Mathlib.Numerals.{add-one}
use native.Mathlib.Omega.{arith}
use lib.IntN.{ℤ, pos}
use lib.ListN.{length, get_or, drop, length-append, length-drop, get_or-append}
use lib.Seq.{sets, sets-eq, take-append_seam, drop-append-add, drop-drop}
use Rattle.rules.specs.declared.Offset.{Offset}
use Rattle.rules.specs.Frames.{written_over}
use Rattle.rules.specs.Planes.{distance}
use Rattle.rules.specs.Limits.{max_offset}
use Rattle.rules.specs.Levels.{added, Near}
use Rattle.rules.specs.Series.{frame_offset, offset_list}
use Rattle.rules.proofs.SeriesLaws.{frame_step}
use Rattle.rules.proofs.OffsetLaws.{near-frame, near-more, length-offsets, offset_at}
use Rattle.offsets.specs.PairOffsets.{max_frame_offset, pair_offset, with_offset, SmallPairs}

-- A frame is at most 15 pairs away, so that the machine's next sum is exact.
frame_small : (pairs : List ℤ) (n r k : ℕ) → n ≤ 15 → SmallPairs n pairs → r ≤ n → k ≤ n → Near max_frame_offset (frame_offset (pair_offset pairs) r k)
unfolding distance
frame_small pairs n r k few small p q =
    near-more (distance k r * max_offset) max_frame_offset (frame_offset (pair_offset pairs) r k) (omega arith)
    (near-frame max_offset (pair_offset pairs) n r k p q small)

pub turn-ready : (pairs : List ℤ) (r : ℕ) (m : Offset) → r ≤ 15 → SmallPairs r pairs → m ≡ frame_offset (pair_offset pairs) 0 r → Near max_frame_offset m
turn-ready pairs r m few small e = rw e (frame_small pairs r 0 r few small (omega arith) (omega arith))

pub next-ready : (pairs : List ℤ) (n r k : ℕ) (m : Offset) → n ≤ 15 → SmallPairs n pairs → r ≤ n → k < n → m ≡ frame_offset (pair_offset pairs) r k
    → Near max_frame_offset m × Near max_offset (pair_offset pairs k)
next-ready pairs n r k m few small p q e = (rw e (frame_small pairs n r k few small p (omega arith)), small k q)

-- the running offset, one frame on
pub next-frame : (pairs : List ℤ) (r k : ℕ) (m next : Offset) → m ≡ frame_offset (pair_offset pairs) r k → next ≡ added m (pair_offset pairs k)
    → next ≡ frame_offset (pair_offset pairs) r (k + 1)
next-frame pairs r k m next e s = s ∙ ap (λ (a : Offset). added a (pair_offset pairs k)) e ∙ sym (frame_step (pair_offset pairs) r k)

-- More numbers written after the first ones.
written-more : (out more lent : List ℤ) → length out + length more ≤ length lent
    → sets (written_over out lent) (length out) more ≡ written_over (out ++ more) lent
written-more out more lent room =
    sets-eq more (written_over out lent) (length out) (let a = length-append out rest in let b = length-drop (length out) lent in omega arith)
    ∙ ap₂ (λ (l r : List ℤ). l ++ more ++ r) (take-append_seam out rest)
    (drop-append-add out rest (length more) ∙ drop-drop (length more) (length out) lent ∙ ap (λ (k : ℕ). drop k lent) (sym (length-append out more)))
  where
    rest : List ℤ
    rest = drop (length out) lent

pub written-length : (n : ℕ) (f : ℕ → Offset) (lent : List ℤ) → 2 * n ≤ length lent → length (written_over (offset_list n f) lent) ≡ length lent
written-length n f lent room =
    length-append (offset_list n f) (drop (length (offset_list n f)) lent)
    ∙ (let a = length-drop (length (offset_list n f)) lent in let b = length-offsets n f in omega arith)

-- Offset k written after the first k.
module _ (f : ℕ → Offset) (lent before : List ℤ) (k : ℕ) (sofar : before ≡ written_over (offset_list k f) lent) (room : 2 * k + 2 ≤ length lent) where
  pub put-ready : 2 * k + 2 ≤ length before
  put-ready = rw (sofar, written-length k f lent (omega arith)) room

  pub put_next : (m : Offset) (after : List ℤ) → m ≡ f k → after ≡ with_offset k m before → after ≡ written_over (offset_list (k + 1) f) lent
  unfolding offset_list
  put_next m after e put =
      let size = length-offsets k f in
      put
      ∙ ap₂ (with_offset k) e sofar
      ∙ rw (add-one (2 * k), add-one k, ← size) (written-more (offset_list k f) ((f k).dx ∷ (f k).dy ∷ []) lent (omega arith))

-- Offsets written into a list are read again.
pub written-pair : (n : ℕ) (f : ℕ → Offset) (lent : List ℤ) (j : ℕ) → j < n → pair_offset (written_over (offset_list n f) lent) j ≡ f j
written-pair n f lent j l = λ i. record { dx = (front (2 * j) (omega arith) ∙ (offset_at n f j l).0) i; dy = (front (2 * j + 1) (omega arith) ∙ (offset_at n f j l).1) i }
  where
    front : (i : ℕ) → i < 2 * n → get_or (written_over (offset_list n f) lent) i (pos 0) ≡ get_or (offset_list n f) i (pos 0)
    front i m = get_or-append (offset_list n f) (drop (length (offset_list n f)) lent) (pos 0) i (let b = length-offsets n f in omega arith)
