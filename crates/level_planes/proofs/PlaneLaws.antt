-- Laws of the bitmaps that stand in lent words.
use mathlib.Core.Path.{◌≡◌, refl, sym, ap, ap₂, subst, ◌∙◌}
use mathlib.Core.Bool.{Bool, ◌&&◌}
use mathlib.Core.Logic.{⊎_elim}
use mathlib.Core.List.{List}
use Prim.Native.Nat.{ℕ, ◌+◌, ◌*◌, ◌-◌, ◌/◌, ◌%◌, ◌≤◌, ◌<◌}
use native.Mathlib.Nat.{add_assoc, add-mul, mul_comm}
use native.Mathlib.Omega.{arith}
use lib.Dec.{ltb}
use lib.ListN.{length, get_or, take, drop, length-take, length-drop}
use lib.Seq.{get_or-take, get_or-drop}
use borrow.Author.Tests.{lt-ltb}
use Rattle.rules.specs.Sums.{gate}
use Rattle.rules.specs.Frames.{Frame, frame_of}
use Rattle.rules.specs.Thresholds.{threshold}
use Rattle.rules.specs.Planes.{threshold_bit, bits_by}
use Rattle.rules.specs.Bitmaps.{row_words, bit, bit_at, word, word_of}
use Rattle.rules.specs.Differences.{Planes, SamePlanes}
use Rattle.rules.specs.declared.Exclusion.{Exclusion}
use Rattle.rules.specs.declared.Setup.{Setup}
use Rattle.rules.specs.Levels.{rule_of, planes_by}
use Rattle.rules.proofs.SumLaws.{order, gate-small}
use Rattle.rules.specs.Buffers.{RowAt}
use Rattle.rules.proofs.FrameLaws.{row_fits, pixel-fits}
use Rattle.words.proofs.BitLaws.{word-bit}
use Rattle.threshold.specs.Flat.{threshold_in}
use Rattle.threshold.proofs.FlatLaws.{threshold-flat}
use Rattle.flags.specs.Flags.{outside_bit}
use Rattle.pack.specs.Outside.{outside_plane, outside_word}
use Rattle.flags.proofs.FlagLaws.{outside-lt}
use Rattle.pack.proofs.OutsideLaws.{threshold-plane}
use Rattle.level_planes.specs.LevelPlanes.{planes_at, BothAt, PackedAt}
use Rattle.level_planes.specs.Excluded.{Excludes}
use Rattle.rules.proofs.PairLaws.{threshold-ext}

-- The part of a list that holds a frame, whatever stands after it: its length, its thresholds, and what they leave out.
module _ (w h from : ℕ) (grey : List ℕ) (room : from + w * h ≤ length grey) where
  pub part_length : length (take (from + w * h - from) (drop from grey)) ≡ w * h
  part_length = length-take (from + w * h - from) (drop from grey) ∙ (let a = length-drop from grey in omega arith)

  pub part-threshold : (percentile : ℕ) → threshold_in percentile (take (from + w * h - from) (drop from grey)) ≡ threshold w h percentile (frame_of w (drop from grey))
  unfolding frame_of
  part-threshold percentile =
      let part : List ℕ = take (from + w * h - from) (drop from grey) in
      threshold-flat w h percentile part part_length
      ∙ threshold-ext w h (frame_of w part) (frame_of w (drop from grey))
      (λ x y k l. get_or-take (from + w * h - from) (drop from grey) (y * w + x) 0 (let a = pixel-fits w h x y k l in omega arith))
      percentile

  pub part-excludes : (exclusion : Exclusion) (percentile lo hi : ℕ) → Excludes exclusion (λ p. threshold_in p (take (from + w * h - from) (drop from grey))) percentile lo hi
      → Excludes exclusion (λ p. threshold w h p (frame_of w (drop from grey))) percentile lo hi
  part-excludes exclusion percentile lo hi x = subst (λ (t : ℕ → ℕ). Excludes exclusion t percentile lo hi) (λ i p. part-threshold p i) x

-- the places of earlier rows lie before row y, and those of row y before its end
row_before : (n y x z : ℕ) → x < n → z < y → z * n + x < y * n
row_before n y x z k l = let a = pixel-fits n y x z k l in let b = mul_comm n y in omega arith

row-end : (n y x z : ℕ) → x < n → z < y + 1 → z * n + x < y * n + n
row-end n y x z k l = let a = row_before n (y + 1) x z k l in let b = add-mul y 1 n in omega arith

-- Two frames written row by row into one list, the second after the first.
pub both-none : (first second n : ℕ) (f g : Frame) (before : List ℕ) → BothAt first second n f g before 0 before
both-none first second n f g before =
    record { len = refl; under = λ m l. refl; firsts = λ x z k l. absurd (omega arith); seconds = λ x z k l. absurd (omega arith) }

-- one row more of each
both-more : (first second n : ℕ) (f g : Frame) (before : List ℕ) (y : ℕ) (old mid new : List ℕ) → first + y * n + n ≤ second
    → BothAt first second n f g before y old
    → RowAt (first + y * n) (λ x. f x y) old n mid
    → RowAt (second + y * n) (λ x. g x y) mid n new
    → BothAt first second n f g before (y + 1) new
both-more first second n f g before y old mid new apart b r s = record {
  len = s.len ∙ r.len ∙ b.len;
  under = λ m l. s.under m (omega arith) ∙ r.under m (omega arith) ∙ b.under m l;
  firsts = λ x z k l. s.under (first + (z * n + x)) (let a = row-end n y x z k l in omega arith) ∙ ⊎_elim (λ (m : z < y). was1 x z k m) (λ (m : y ≤ z). is1 x z k l m) (order z y);
  seconds = λ x z k l. ⊎_elim (λ (m : z < y). was2 x z k m) (λ (m : y ≤ z). is2 x z k l m) (order z y);
}
  where
    was1 : (x z : ℕ) → x < n → z < y → get_or mid (first + (z * n + x)) 0 ≡ f x z
    was1 x z k m = r.under (first + (z * n + x)) (let a = row_before n y x z k m in omega arith) ∙ b.firsts x z k m

    is1 : (x z : ℕ) → x < n → z < y + 1 → y ≤ z → get_or mid (first + (z * n + x)) 0 ≡ f x z
    is1 x z k l m =
        let d : z ≡ y = omega arith in
        ap (λ (j : ℕ). get_or mid (first + (j * n + x)) 0) d ∙ ap (λ (j : ℕ). get_or mid j 0) (sym (add_assoc first (y * n) x)) ∙ r.done x k ∙ ap (f x) (sym d)

    was2 : (x z : ℕ) → x < n → z < y → get_or new (second + (z * n + x)) 0 ≡ g x z
    was2 x z k m =
        s.under (second + (z * n + x)) (let a = row_before n y x z k m in omega arith)
        ∙ r.over (second + (z * n + x)) (omega arith)
        ∙ b.seconds x z k m

    is2 : (x z : ℕ) → x < n → z < y + 1 → y ≤ z → get_or new (second + (z * n + x)) 0 ≡ g x z
    is2 x z k l m =
        let d : z ≡ y = omega arith in
        ap (λ (j : ℕ). get_or new (second + (j * n + x)) 0) d ∙ ap (λ (j : ℕ). get_or new j 0) (sym (add_assoc second (y * n) x)) ∙ s.done x k ∙ ap (g x) (sym d)

-- the words of row y of the frame that begins at place `from` of a grey list
row_of : (lo hi w from y : ℕ) (grey : List ℕ) → outside_word lo hi grey (from + y * w) w ≡ (λ k. word_of w (outside_plane lo hi w (drop from grey)) k y)
unfolding outside_word outside_plane word_of frame_of
row_of lo hi w from y grey = λ i k. word (λ j. gate (ltb (k * 64 + j) w) (outside_bit lo hi (same (k * 64 + j) i)))
  where
    same : (x : ℕ) → get_or grey (from + y * w + x) 0 ≡ get_or (drop from grey) (y * w + x) 0
    same x = ap (λ (j : ℕ). get_or grey j 0) (add_assoc from (y * w) x) ∙ sym (get_or-drop from grey (y * w + x) 0)

-- one row of a grey frame more in both bitmaps
pub packed_more : (t lo hi w h from y : ℕ) (grey : List ℕ) (to exclusions n : ℕ) (before old mid new : List ℕ)
    → exclusions ≡ to + row_words w * h
    → n ≡ row_words w
    → y < h
    → BothAt to (to + row_words w * h) (row_words w) (word_of w (outside_plane 0 t w (drop from grey))) (word_of w (outside_plane lo hi w (drop from grey))) before y old
    → RowAt (to + y * n) (outside_word 0 t grey (from + y * w) w) old (row_words w) mid
    → RowAt (exclusions + y * n) (outside_word lo hi grey (from + y * w) w) mid (row_words w) new
    → BothAt to (to + row_words w * h) (row_words w) (word_of w (outside_plane 0 t w (drop from grey))) (word_of w (outside_plane lo hi w (drop from grey))) before (y + 1) new
packed_more t lo hi w h from y grey to exclusions n before old mid new d e l b r s =
    both-more to (to + row_words w * h) (row_words w) (word_of w (outside_plane 0 t w (drop from grey))) (word_of w (outside_plane lo hi w (drop from grey))) before y old mid new
    (let a = row_fits (row_words w) h y l in omega arith) b (rw (e, row_of) at r) (rw (d, e, row_of) at s)

-- The bits of the words of a plane, wherever these begin: the plane's up to its width, and 0 past it.
pub bits-written : (w h to : ℕ) (f : Frame) (words : List ℕ) → ((x y : ℕ) → f x y < 2)
    → ((k z : ℕ) → k < row_words w → z < h → get_or words (to + (z * row_words w + k)) 0 ≡ word_of w f k z)
    → (x y : ℕ) → x < row_words w * 64 → y < h → bit (get_or (drop to words) (y * row_words w + x / 64) 0) (x % 64) ≡ gate (ltb x w) (f x y)
unfolding word_of
bits-written w h to f words small done x y k l =
    let e : x / 64 * 64 + x % 64 ≡ x = omega arith in
    ap (λ (v : ℕ). bit v (x % 64)) (get_or-drop to words (y * row_words w + x / 64) 0 ∙ done (x / 64) y (omega arith) l)
    ∙ word-bit (λ i. gate (ltb (x / 64 * 64 + i) w) (f (x / 64 * 64 + i) y)) (λ i m. gate-small (ltb (x / 64 * 64 + i) w) (f (x / 64 * 64 + i) y) (small (x / 64 * 64 + i) y)) (x % 64) (omega arith)
    ∙ ap (λ (j : ℕ). gate (ltb j w) (f j y)) e

row-covers : (w x : ℕ) → x < w → x < row_words w * 64
unfolding row_words
row-covers w x l = omega arith

pub bits-packed : (w h to : ℕ) (f : Frame) (words : List ℕ) → ((x y : ℕ) → f x y < 2)
    → ((k z : ℕ) → k < row_words w → z < h → get_or words (to + (z * row_words w + k)) 0 ≡ word_of w f k z)
    → (x y : ℕ) → x < w → y < h → bit_at w h (drop to words) x y ≡ f x y
unfolding bit_at
bits-packed w h to f words small done x y k l =
    ap₂ (λ (s t : Bool). gate (s && t) (bit (get_or (drop to words) (y * row_words w + x / 64) 0) (x % 64))) (lt-ltb x w k) (lt-ltb y h l)
    ∙ bits-written w h to f words small done x y (row-covers w x k) l
    ∙ ap (λ (t : Bool). gate t (f x y)) (lt-ltb x w k)

outside-small : (lo hi w : ℕ) (grey : List ℕ) (x y : ℕ) → outside_plane lo hi w grey x y < 2
unfolding outside_plane
outside-small lo hi w grey x y = outside-lt lo hi (frame_of w grey x y)

-- The bitmaps by the tests of single pixels are the frame's planes.
pub packed-at : (S : Setup) (from : ℕ) (grey : List ℕ) (to : ℕ) (before after : List ℕ) (t lo hi : ℕ)
    → ((i : ℕ) → get_or grey i 0 < 256)
    → t ≡ threshold S.w S.h S.percentile (frame_of S.w (drop from grey))
    → Excludes S.exclusion (λ p. threshold S.w S.h p (frame_of S.w (drop from grey))) S.percentile lo hi
    → BothAt to (to + row_words S.w * S.h) (row_words S.w)
    (word_of S.w (outside_plane 0 t S.w (drop from grey))) (word_of S.w (outside_plane lo hi S.w (drop from grey))) before S.h after
    → PackedAt S (drop from grey) to before after
unfolding planes_by outside_plane frame_of
packed-at S from grey to before after t lo hi bytes t-is excludes b = record {
  len = b.len;
  under = b.under;
  planes = record {
    thresholds = λ x y k l. bits-packed S.w S.h to (outside_plane 0 t S.w l₀) after (outside-small 0 t S.w l₀) b.firsts x y k l ∙ (λ i. thresholds i x y);
    exclusions = λ x y k l.
        bits-packed S.w S.h (to + row_words S.w * S.h) (outside_plane lo hi S.w l₀) after (outside-small lo hi S.w l₀) b.seconds x y k l
        ∙ exclusions x y;
  };
}
  where
    l₀ : List ℕ
    l₀ = drop from grey

    f : Frame
    f = frame_of S.w l₀

    thresholds : outside_plane 0 t S.w l₀ ≡ bits_by (threshold_bit (threshold S.w S.h S.percentile f)) f
    thresholds = sym (threshold-plane t S.w l₀) ∙ ap (λ (v : ℕ). bits_by (threshold_bit v) f) t-is

    exclusions : (x y : ℕ) → outside_plane lo hi S.w l₀ x y ≡ rule_of S.exclusion (λ p. threshold S.w S.h p f) S.percentile (f x y)
    exclusions x y =
        sym (excludes.outside (f x y)
        (let byte = bytes (from + (y * S.w + x)) in let e = get_or-drop from grey (y * S.w + x) 0 in omega arith))

-- A bitmap is read only at its own words.
pub bits-kept : (w h to : ℕ) (before after : List ℕ) → ((m : ℕ) → m < to + row_words w * h → get_or after m 0 ≡ get_or before m 0)
    → (x y : ℕ) → x < w → y < h → bit_at w h (drop to after) x y ≡ bit_at w h (drop to before) x y
unfolding bit_at row_words
bits-kept w h to before after same x y k l =
    let j : ℕ = y * row_words w + x / 64 in
    let inside : j < row_words w * h = pixel-fits (row_words w) h (x / 64) y (omega arith) l in
    ap (λ (v : ℕ). gate (ltb x w && ltb y h) (bit v (x % 64)))
    (get_or-drop to after j 0 ∙ same (to + j) (omega arith) ∙ sym (get_or-drop to before j 0))

-- Bitmaps stay a frame's while only places after them are written.
pub planes-kept : (w h to : ℕ) (before after : List ℕ) (p : Planes)
    → ((m : ℕ) → m < to + 2 * (row_words w * h) → get_or after m 0 ≡ get_or before m 0)
    → SamePlanes w h (planes_at w h to before) p → SamePlanes w h (planes_at w h to after) p
planes-kept w h to before after p same q = record {
  thresholds = λ x y k l. bits-kept w h to before after (λ m i. same m (omega arith)) x y k l ∙ q.thresholds x y k l;
  exclusions = λ x y k l. bits-kept w h (to + row_words w * h) before after (λ m i. same m (omega arith)) x y k l ∙ q.exclusions x y k l;
}
