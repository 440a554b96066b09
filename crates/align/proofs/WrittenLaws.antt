-- What stands in lent memory: grey frames made from rasters, and a list written whole.
use mathlib.Core.Path.{◌≡◌, sym, ap, ◌∙◌}
use mathlib.Core.Logic.{⊎_elim}
use mathlib.Core.List.{List}
use Prim.Native.Nat.{ℕ, ◌+◌, ◌*◌, ◌-◌, ◌≤◌, ◌<◌}
use native.Mathlib.Omega.{arith}
use lib.ListN.{length, get_or, drop, length-append, length-drop, get_or-append}
use lib.Seq.{get_or-append-add, get_or-drop, ext_get_or}
use Rattle.rules.specs.Frames.{Frame, frame_of, written_over, SameFrame}
use Rattle.rules.specs.Greys.{grey_frame}
use Rattle.rules.specs.Buffers.{RowAt, FrameAt}
use Rattle.rules.proofs.SumLaws.{order}
use Rattle.rules.proofs.FrameLaws.{pixel-fits, flat-frame}
use Rattle.grey.specs.GreyPlaces.{grey_at}

-- A frame written into the memory stands there, also after another one is written behind it.
pub stands : (to w h : ℕ) (f : Frame) (before after : List ℕ) → FrameAt to w f before h after → SameFrame w h (frame_of w (drop to after)) f
unfolding frame_of
stands to w h f before after r x y k l = get_or-drop to after (y * w + x) 0 ∙ r.done x y k l

pub stays : (to w h : ℕ) (f g : Frame) (before mid after : List ℕ) → FrameAt 0 w f before h mid → w * h ≤ to → FrameAt to w g mid h after
    → SameFrame w h (frame_of w (drop 0 after)) f
unfolding frame_of
stays to w h f g before mid after r room later x y k l =
    later.under (y * w + x) (let p = pixel-fits w h x y k l in omega arith) ∙ stands 0 w h f before mid r x y k l

-- so does a raster converted from place `to` on, as its grey frame
pub converted : (w h to : ℕ) (raster before after : List ℕ) → RowAt to (grey_at raster) before (w * h) after
    → SameFrame w h (frame_of w (drop to after)) (grey_frame w raster)
unfolding grey_frame grey_at
converted w h to raster before after r = stands to w h (grey_frame w raster) before after (flat-frame to w h (grey_at raster) before after r)

pub converted-kept : (w h to : ℕ) (f : ℕ → ℕ) (raster before mid after : List ℕ) → RowAt 0 (grey_at raster) before (w * h) mid
    → w * h ≤ to → RowAt to f mid (w * h) after → SameFrame w h (frame_of w (drop 0 after)) (grey_frame w raster)
unfolding grey_frame grey_at
converted-kept w h to f raster before mid after r room later =
    stays to w h (grey_frame w raster) (λ x y. f (y * w + x)) before mid after
    (flat-frame 0 w h (grey_at raster) before mid r) room (flat-frame to w h f mid after later)

-- a list written whole at the beginning of a lent one
pub row_written : (l before after : List ℕ) (n : ℕ) → length l ≡ n → n ≤ length before → RowAt 0 (λ i. get_or l i 0) before n after
    → after ≡ written_over l before
row_written l before after n size room r =
    ext_get_or 0 after (written_over l before) lengths (λ i m. ⊎_elim (inside i) (outside i) (order i n))
  where
    lengths : length after ≡ length (written_over l before)
    lengths = r.len ∙ sym (length-append l (drop (length l) before) ∙ (let a = length-drop (length l) before in let b = size in omega arith))

    inside : (i : ℕ) → i < n → get_or after i 0 ≡ get_or (written_over l before) i 0
    inside i m =
        ap (λ (j : ℕ). get_or after j 0) (let e : i ≡ 0 + i = omega arith in e)
        ∙ r.done i m
        ∙ sym (get_or-append l (drop (length l) before) 0 i (let b = size in omega arith))

    outside : (i : ℕ) → n ≤ i → get_or after i 0 ≡ get_or (written_over l before) i 0
    outside i m =
        let e : length l + (i - length l) ≡ i = let b = size in omega arith in
        r.over i (omega arith)
        ∙ ap (λ (j : ℕ). get_or before j 0) (sym e)
        ∙ sym (get_or-drop (length l) before (i - length l) 0)
        ∙ sym (get_or-append-add l (drop (length l) before) (i - length l) 0)
        ∙ ap (λ (j : ℕ). get_or (written_over l before) j 0) e
