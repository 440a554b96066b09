-- Grey frames copied and converted into the lent memories, and what stands there then.
use mathlib.Core.Path.{◌≡◌, ap, ◌∙◌}
use mathlib.Core.List.{List, [], ◌++◌, append-nil}
use Prim.Native.Nat.{ℕ, ◌+◌, ◌*◌, ◌-◌, ◌≤◌, ◌<◌}
use native.Mathlib.Omega.{arith}
use lib.ListN.{length, get_or, drop, drop_of_length-le}
use lib.Seq.{get_or-drop}
use borrow.Author.Rules.{rules}
use borrow.Rule.Slice.PartMut.{put_mid}
use Rattle.std.proofs.lemmas.List.{places}
use Rattle.rules.specs.declared.Offset.{Offset}
use Rattle.rules.specs.declared.Setup.{Setup}
use Rattle.rules.specs.Frames.{frame_of, rows}
use Rattle.rules.specs.Greys.{grey_frame}
use Rattle.rules.specs.Buffers.{RowAt}
use Rattle.rules.specs.Levels.{rule_of, Aligned}
use Rattle.rules.proofs.FrameLaws.{pixel-fits, length-rows, get_d_rows, frame-written, flat-frame}
use Rattle.rules.proofs.PairLaws.{pair-ext}
use Rattle.grey.specs.GreyPlaces.{grey_at}
use Rattle.align.specs.Aligns.{Aligns}
use Rattle.newest_frame.specs.NewestFrames.{Replaced, FramesPut, NewestAligned}

-- the newest grey once a raster is converted into it
pub replaced : (w h : ℕ) (raster newest newest' : List ℕ) → length newest ≡ w * h → RowAt 0 (grey_at raster) newest (w * h) newest' → Replaced w h raster newest'
unfolding grey_at grey_frame
replaced w h raster newest newest' size r =
    frame-written w h (grey_frame w raster) newest newest' (omega arith) (flat-frame 0 w h (grey_at raster) newest newest' r)
    ∙ ap (λ (rest : List ℕ). rows w h (grey_frame w raster) ++ rest) nothing
    ∙ append-nil (rows w h (grey_frame w raster))
  where
    long : length newest ≤ length (rows w h (grey_frame w raster))
    long = let n = length-rows w h (grey_frame w raster) in omega arith

    nothing : drop (length (rows w h (grey_frame w raster))) newest ≡ []
    nothing = drop_of_length-le newest long

-- two lists of n numbers copied to the beginning of a lent one, one behind the other
abbrev pub both_put : ℕ → List ℕ → List ℕ → List ℕ → List ℕ
both_put n one two lent = put_mid n (2 * n - n) (one ++ drop n lent) two

module _ (n : ℕ) (one two lent : List ℕ) (size : length one ≡ n) (size' : length two ≡ n) (room : 2 * n ≤ length lent) where
  put-length : length (both_put n one two lent) ≡ length lent
  put-length = search (rules, places)

  put-first : (k : ℕ) → k < n → get_or (both_put n one two lent) k 0 ≡ get_or one k 0
  put-first k l = search (rules, places)

  put-second : (k : ℕ) → k < n → get_or (both_put n one two lent) (n + k) 0 ≡ get_or two k 0
  put-second k l = search (rules, places)

-- All that the three steps leave: the newest frame at the beginning of the work memory, the new one behind it.
pub frames-put : (w h : ℕ) (newest newest' raster grey one two : List ℕ) → length newest ≡ w * h → 2 * (w * h) ≤ length grey
    → one ≡ newest → Replaced w h raster newest' → two ≡ newest'
    → FramesPut w h newest newest' raster (length grey) (both_put (w * h) one two grey)
unfolding frame_of
frames-put w h newest newest' raster grey one two size room front new behind =
    let size' : length newest' ≡ w * h = ap length new ∙ length-rows w h (grey_frame w raster) in
    rw (front, behind) (record {
      len = put-length (w * h) newest newest' grey size size' room;
      first = λ x y k m. put-first (w * h) newest newest' grey size size' room (y * w + x) (pixel-fits w h x y k m);
      second = λ x y k m.
          get_or-drop (w * h) (both_put (w * h) newest newest' grey) (y * w + x) 0
          ∙ put-second (w * h) newest newest' grey size size' room (y * w + x) (pixel-fits w h x y k m)
          ∙ ap (λ (l : List ℕ). get_or l (y * w + x) 0) new
          ∙ get_d_rows w h (grey_frame w raster) x y k m;
      replaced = new;
    })

-- the recursion's answer, from what stands in the memory
pub newest-aligned : (order : List Offset) (S : Setup) (newest newest' raster : List ℕ) (bytes : ℕ) (grey grey' counts counts' compared compared' : List ℕ) (r : Offset)
    → FramesPut S.w S.h newest newest' raster bytes grey → Aligns order S 0 (S.w * S.h) 0 grey grey' counts counts' compared compared' r
    → NewestAligned order S newest newest' raster r
newest-aligned order S newest newest' raster bytes grey grey' counts counts' compared compared' r put aligns = record {
  offset = aligns.offset ∙ ap (λ (x : Aligned). x.offset)
      (pair-ext order (rule_of S.exclusion) S.percentile S.s S.w S.h
      (frame_of S.w (drop 0 grey)) (frame_of S.w newest) (frame_of S.w (drop (S.w * S.h) grey)) (grey_frame S.w raster) put.first put.second);
  replaced = put.replaced;
}
