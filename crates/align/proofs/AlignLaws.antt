-- The step of the recursion over plain lists: what the coarser level reads, what it leaves, and how the numbers go together.
use mathlib.Core.Path.{◌≡◌, refl, sym, ap, ap₂, ◌∙◌}
use mathlib.Core.List.{List, [], ◌++◌, map}
use Prim.Native.Nat.{ℕ, suc, ◌+◌, ◌*◌, ◌-◌, ◌/◌, ◌^◌, ◌≤◌, ◌<◌}
use native.Mathlib.Nat.{mul_comm, mul-le-mul, pow-suc}
use native.Mathlib.Omega.{arith}
use lib.ListN.{length, get_or, take, drop, length-drop, get_or-append}
use lib.Seq.{get_or-append-add, get_or-drop, get_or-take}
use lib.Pow.{pow_pos, pow_mono}
use borrow.Rule.Slice.PartMut.{put_mid, take_put}
use borrow.Author.Rules.{part_to_end}
use Rattle.rules.specs.declared.Offset.{Offset}
use Rattle.rules.specs.declared.Setup.{Setup}
use Rattle.rules.specs.Limits.{max_offset, max_centre}
use Rattle.rules.specs.Frames.{Frame, frame_of, SameFrame}
use Rattle.rules.specs.Greys.{halved}
use Rattle.rules.specs.Levels.{still, added, ward_order, arranged, ExclusionRule, rule_of, chosen, Aligned, level, count_at, compared_at, pair, Near}
use Rattle.rules.specs.Bitmaps.{row_words}
use Rattle.rules.specs.Buffers.{RowAt, FrameAt}
use Rattle.rules.proofs.FrameLaws.{pixel-fits, row-ext, row-join}
use Rattle.rules.proofs.LevelLaws.{map_at, counts-length, compared-length}
use Rattle.rules.proofs.OffsetLaws.{near_add, near-more, near-pair, near-arranged}
use Rattle.rules.proofs.PairLaws.{halved-ext, count-ext, compared-at-ext, pair-ext}
use Rattle.rules.proofs.AlignmentLaws.{level-pixels-step, level-pixels-at}
use Rattle.level_planes.specs.FrameSides.{Sides}
use Rattle.level_counts.specs.NineCounts.{nine_of}
use Rattle.level.specs.Choices.{count_by, compared_by, LevelAligned}
use Rattle.align.specs.Aligns.{Frames, Aligns, aligned_in}

-- The nine numbers that a level writes, by place.
nine-at : (number : Offset → ℕ) (centre : Offset) (k : ℕ) → k < 9
    → get_or (map number (map (added centre) ward_order)) k 0 ≡ nine_of number centre k
nine-at number centre k l = map_at number (map (added centre) ward_order) still 0 k l

-- the setup of the next coarser level
abbrev pub coarser : Setup → Setup
coarser S = record { w = S.w / 2; h = S.h / 2; s = S.s - 1; percentile = S.percentile; exclusion = S.exclusion }

-- a pair with no halving, and one with some
pair_one : (preferred : List Offset) (rule : ExclusionRule) (percentile s w h : ℕ) (a b : Frame) → s ≡ 0
    → pair preferred rule percentile s w h a b ≡ level preferred (count_at rule percentile w h a b) (compared_at rule percentile w h a b) still [] []
unfolding pair
pair_one preferred rule percentile s w h a b e = ap (λ (n : ℕ). pair preferred rule percentile n w h a b) e

pair-more : (preferred : List Offset) (rule : ExclusionRule) (percentile s w h : ℕ) (a b : Frame) → 0 < s
    → let coarse = pair preferred rule percentile (s - 1) (w / 2) (h / 2) (halved a) (halved b) in
    pair preferred rule percentile s w h a b
    ≡ level preferred (count_at rule percentile w h a b) (compared_at rule percentile w h a b) (added coarse.offset coarse.offset) coarse.counts coarse.compared
unfolding pair
pair-more preferred rule percentile s w h a b some =
    let e : s ≡ suc (s - 1) = omega arith in
    ap (λ (n : ℕ). pair preferred rule percentile n w h a b) e

-- a level alone
pub aligned-one : (preferred : List Offset) (S : Setup) (first second at : ℕ) (grey counts counts' compared compared' : List ℕ) (r : Offset) → S.s ≡ 0
    → LevelAligned preferred (count_by S (frame_of S.w (drop first grey)) (frame_of S.w (drop second grey)))
    (compared_by S (frame_of S.w (drop first grey)) (frame_of S.w (drop second grey))) still at counts counts' compared compared' r
    → Aligns preferred S first second at grey grey counts counts' compared compared' r
unfolding level
aligned-one preferred S first second at grey counts counts' compared compared' r e p = record {
  offset = p.offset ∙ sym (ap (λ (a : Aligned). a.offset) one);
  counts_written = alone (λ a. a.counts) count counts counts' (ap (λ (a : Aligned). a.counts) one) p.nine_counts;
  compared_written = alone (λ a. a.compared) out_of compared compared' (ap (λ (a : Aligned). a.compared) one) p.nine_compared;
  kept = λ m l. refl;
}
  where
    count : Offset → ℕ
    count = count_by S (frame_of S.w (drop first grey)) (frame_of S.w (drop second grey))

    out_of : Offset → ℕ
    out_of = compared_by S (frame_of S.w (drop first grey)) (frame_of S.w (drop second grey))

    one : aligned_in preferred S first second grey ≡ level preferred count out_of still [] []
    one = pair_one preferred (rule_of S.exclusion) S.percentile S.s S.w S.h (frame_of S.w (drop first grey)) (frame_of S.w (drop second grey)) e

    -- either list
    alone : (list : Aligned → List ℕ) (number : Offset → ℕ) (before after : List ℕ) → list (aligned_in preferred S first second grey) ≡ map number (map (added still) ward_order)
        → RowAt at (nine_of number still) before 9 after → RowAt at (λ k. get_or (list (aligned_in preferred S first second grey)) k 0) before (9 * (S.s + 1)) after
    alone list number before after is written =
        let nine : 9 * (S.s + 1) ≡ 9 = omega arith in
        rw nine (row-ext at (nine_of number still) (λ k. get_or (list (aligned_in preferred S first second grey)) k 0) before after 9
        (λ k l. sym (ap (λ (m : List ℕ). get_or m k 0) is ∙ nine-at number still k l)) written)

-- What a part of a `&mut` that begins at `a` leaves of the whole: all before it.
before-part : (a m : ℕ) (whole part : List ℕ) → a ≤ length whole → m < a
    → get_or (put_mid a (length whole - a) whole part) m 0 ≡ get_or whole m 0
before-part a m whole part l k =
    sym (get_or-take a (put_mid a (length whole - a) whole part) m 0 k)
    ∙ ap (λ (xs : List ℕ). get_or xs m 0) (take_put a (length whole - a) whole part l)
    ∙ get_or-take a whole m 0 k

in-part : (a : ℕ) (whole : List ℕ) (i : ℕ) → get_or (take (length whole - a) (drop a whole)) i 0 ≡ get_or whole (a + i) 0
in-part a whole i = ap (λ (xs : List ℕ). get_or xs i 0) (part_to_end whole a) ∙ get_or-drop a whole i 0

pub part_length : (a : ℕ) (whole : List ℕ) (n : ℕ) → length whole ≡ n → length (take (length whole - a) (drop a whole)) ≡ n - a
part_length a whole n e = ap length (part_to_end whole a) ∙ length-drop a whole ∙ ap (λ (m : ℕ). m - a) e

-- A frame within the first 2·w·h bytes is seen alike in lists that agree there.
pub frame_same : (w h from : ℕ) (g g' : List ℕ) → from + w * h ≤ 2 * (w * h) → ((m : ℕ) → m < 2 * (w * h) → get_or g m 0 ≡ get_or g' m 0)
    → SameFrame w h (frame_of w (drop from g)) (frame_of w (drop from g'))
unfolding frame_of
frame_same w h from g g' room kept x y k l =
    get_or-drop from g (y * w + x) 0
    ∙ kept (from + (y * w + x)) (let p = pixel-fits w h x y k l in omega arith)
    ∙ sym (get_or-drop from g' (y * w + x) 0)

-- what is lent on of a memory: all from the end of this level's frames
abbrev pub remainder : Setup → List ℕ → List ℕ
remainder S g = take (length g - 2 * (S.w * S.h)) (drop (2 * (S.w * S.h)) g)

-- the memory once what was lent on holds p
abbrev pub returned : Setup → List ℕ → List ℕ → List ℕ
returned S g p = put_mid (2 * (S.w * S.h)) (length g - 2 * (S.w * S.h)) g p

-- The two halvings into the remainder.
module _ (preferred : List Offset) (S : Setup) (first second : ℕ) (g0 g1 g2 : List ℕ) (some : 0 < S.s)
    (one : first + S.w * S.h ≤ 2 * (S.w * S.h)) (two : second + S.w * S.h ≤ 2 * (S.w * S.h))
    (f1 : FrameAt (2 * (S.w * S.h)) (S.w / 2) (halved (frame_of S.w (drop first g0))) g0 (S.h / 2) g1)
    (f2 : FrameAt (2 * (S.w * S.h) + S.w / 2 * (S.h / 2)) (S.w / 2) (halved (frame_of S.w (drop second g1))) g1 (S.h / 2) g2) where
  rest : ℕ
  rest = 2 * (S.w * S.h)

  quarter : ℕ
  quarter = S.w / 2 * (S.h / 2)

  -- the frames themselves are still there
  untouched : (m : ℕ) → m < 2 * (S.w * S.h) → get_or g2 m 0 ≡ get_or g0 m 0
  untouched m l = f2.under m (omega arith) ∙ f1.under m l

  second-kept : SameFrame S.w S.h (frame_of S.w (drop second g1)) (frame_of S.w (drop second g0))
  second-kept = frame_same S.w S.h second g1 g0 two (λ m l. f1.under m l)

  coarse-first : SameFrame (S.w / 2) (S.h / 2) (frame_of (S.w / 2) (drop 0 (remainder S g2))) (halved (frame_of S.w (drop first g0)))
  unfolding frame_of rest quarter
  coarse-first x y k l =
      in-part rest g2 (y * (S.w / 2) + x)
      ∙ f2.under (rest + (y * (S.w / 2) + x)) (let p = pixel-fits (S.w / 2) (S.h / 2) x y k l in omega arith)
      ∙ f1.done x y k l

  coarse-second : SameFrame (S.w / 2) (S.h / 2) (frame_of (S.w / 2) (drop (S.w / 2 * (S.h / 2)) (remainder S g2))) (halved (frame_of S.w (drop second g0)))
  unfolding frame_of rest quarter
  coarse-second x y k l =
      let e : rest + (quarter + (y * (S.w / 2) + x)) ≡ rest + quarter + (y * (S.w / 2) + x) = omega arith in
      get_or-drop quarter (remainder S g2) (y * (S.w / 2) + x) 0
      ∙ in-part rest g2 (quarter + (y * (S.w / 2) + x))
      ∙ ap (λ (i : ℕ). get_or g2 i 0) e
      ∙ f2.done x y k l
      ∙ halved-ext S.w S.h (frame_of S.w (drop second g1)) (frame_of S.w (drop second g0)) second-kept x y k l

  -- A level after its coarser one.
  pub aligned-more : (at : ℕ) (p' counts counts1 counts2 compared compared1 compared2 : List ℕ) (place : ℕ) (coarse centre r : Offset)
      → 2 * (S.w * S.h) ≤ length g2
      → Aligns preferred (coarser S) 0 (S.w / 2 * (S.h / 2)) at (remainder S g2) p' counts counts1 compared compared1 coarse
      → centre ≡ added coarse coarse
      → place ≡ at + 9 * S.s
      → LevelAligned preferred (count_by S (frame_of S.w (drop first (returned S g2 p'))) (frame_of S.w (drop second (returned S g2 p'))))
      (compared_by S (frame_of S.w (drop first (returned S g2 p'))) (frame_of S.w (drop second (returned S g2 p')))) centre place counts1 counts2 compared1 compared2 r
      → Aligns preferred S first second at g0 (returned S g2 p') counts counts2 compared compared2 r
  unfolding level
  aligned-more at p' counts counts1 counts2 compared compared1 compared2 place coarse centre r long below c d here = record {
    offset =
        here.offset
        ∙ ap₂ (λ (f : Offset → ℕ) (m : Offset). chosen f (map (added m) preferred)) counts_same centre-is
        ∙ sym (ap (λ (a : Aligned). a.offset) full_is);
    counts_written =
        together (λ a. a.counts) count count3 counts counts1 counts2 counts_same (ap (λ (a : Aligned). a.counts) full_is)
        (counts-length preferred rule S.percentile (S.s - 1) (S.w / 2) (S.h / 2) (halved A) (halved B)) below.counts_written here.nine_counts;
    compared_written =
        together (λ a. a.compared) out_of out_of3 compared compared1 compared2 out-of-same (ap (λ (a : Aligned). a.compared) full_is)
        (compared-length preferred rule S.percentile (S.s - 1) (S.w / 2) (S.h / 2) (halved A) (halved B)) below.compared_written here.nine_compared;
    kept = kept;
  }
    where
      rule : ExclusionRule
      rule = rule_of S.exclusion

      A : Frame
      A = frame_of S.w (drop first g0)

      B : Frame
      B = frame_of S.w (drop second g0)

      A3 : Frame
      A3 = frame_of S.w (drop first (returned S g2 p'))

      B3 : Frame
      B3 = frame_of S.w (drop second (returned S g2 p'))

      under : Aligned
      under = pair preferred rule S.percentile (S.s - 1) (S.w / 2) (S.h / 2) (halved A) (halved B)

      count : Offset → ℕ
      count = count_by S A B

      count3 : Offset → ℕ
      count3 = count_by S A3 B3

      out_of : Offset → ℕ
      out_of = compared_by S A B

      out_of3 : Offset → ℕ
      out_of3 = compared_by S A3 B3

      full : Aligned
      full = aligned_in preferred S first second g0

      full_is : full ≡ level preferred count out_of (added under.offset under.offset) under.counts under.compared
      full_is = pair-more preferred rule S.percentile S.s S.w S.h A B some

      kept : (m : ℕ) → m < 2 * (S.w * S.h) → get_or (returned S g2 p') m 0 ≡ get_or g0 m 0
      kept m l = before-part (2 * (S.w * S.h)) m g2 p' long l ∙ untouched m l

      first-same : SameFrame S.w S.h A3 A
      first-same = frame_same S.w S.h first (returned S g2 p') g0 one kept

      second-same : SameFrame S.w S.h B3 B
      second-same = frame_same S.w S.h second (returned S g2 p') g0 two kept

      counts_same : count3 ≡ count
      counts_same = count-ext rule S.percentile S.w S.h A3 A B3 B first-same second-same

      out-of-same : out_of3 ≡ out_of
      out-of-same = compared-at-ext rule S.percentile S.w S.h A3 A B3 B first-same second-same

      -- the coarser level's answer is that of the halved frames
      answer : Aligned
      answer = aligned_in preferred (coarser S) 0 (S.w / 2 * (S.h / 2)) (remainder S g2)

      answer-is : answer ≡ under
      answer-is =
          pair-ext preferred rule S.percentile (S.s - 1) (S.w / 2) (S.h / 2)
          (frame_of (S.w / 2) (drop 0 (remainder S g2))) (halved A) (frame_of (S.w / 2) (drop (S.w / 2 * (S.h / 2)) (remainder S g2))) (halved B)
          coarse-first coarse-second

      centre-is : centre ≡ added under.offset under.offset
      centre-is = c ∙ ap (λ (m : Offset). added m m) (below.offset ∙ ap (λ (a : Aligned). a.offset) answer-is)

      -- either list: the coarser level's, and nine numbers after it
      together : (list : Aligned → List ℕ) (number number3 : Offset → ℕ) (before mid after : List ℕ) → number3 ≡ number
          → list full ≡ list under ++ map number (map (added (added under.offset under.offset)) ward_order) → length (list under) ≡ 9 * (S.s - 1 + 1)
          → RowAt at (λ k. get_or (list answer) k 0) before (9 * (S.s - 1 + 1)) mid → RowAt place (nine_of number3 centre) mid 9 after
          → RowAt at (λ k. get_or (list full) k 0) before (9 * (S.s + 1)) after
      together list number number3 before mid after same is long' low high =
          rw total (row-join at (λ k. get_or (list full) k 0) (nine_of number3 centre) before mid after (9 * S.s) 9 lower (rw (sym d) high) later)
        where
          total : 9 * (S.s + 1) ≡ 9 * S.s + 9
          total = omega arith

          fewer : 9 * (S.s - 1 + 1) ≡ 9 * S.s
          fewer = omega arith

          nine : List ℕ
          nine = map number (map (added (added under.offset under.offset)) ward_order)

          full_at : (k : ℕ) → get_or (list full) k 0 ≡ get_or (list under ++ nine) k 0
          full_at k = ap (λ (m : List ℕ). get_or m k 0) is

          lower : RowAt at (λ k. get_or (list full) k 0) before (9 * S.s) mid
          lower =
              row-ext at (λ k. get_or (list answer) k 0) (λ k. get_or (list full) k 0) before mid (9 * S.s)
              (λ k l. ap (λ (a : Aligned). get_or (list a) k 0) answer-is ∙ sym (get_or-append (list under) nine 0 k (omega arith)) ∙ sym (full_at k))
              (rw fewer at low)

          later : (j : ℕ) → j < 9 → nine_of number3 centre j ≡ get_or (list full) (9 * S.s + j) 0
          later j l =
              ap₂ (λ (f : Offset → ℕ) (m : Offset). nine_of f m j) same centre-is
              ∙ sym (nine-at number (added under.offset under.offset) j l)
              ∙ sym (get_or-append-add (list under) nine j 0)
              ∙ ap (λ (n : ℕ). get_or (list under ++ nine) (n + j) 0) (long' ∙ fewer)
              ∙ sym (full_at (9 * S.s + j))

-- Offsets stay small, so that doubling fits.
pub coarse-near : (places : List ℕ) (S : Setup) (a b : Frame) (m : Offset) → S.s ≤ 8
    → m ≡ (pair (arranged places) (rule_of S.exclusion) S.percentile S.s S.w S.h a b).offset → Near max_offset m
coarse-near places S a b m l e =
    let p : 2 ^ suc S.s ≤ 2 ^ 9 = pow_mono {i = suc S.s} {j = 9} (omega arith) in
    rw e (near-more (2 ^ suc S.s - 1) max_offset _ (omega arith)
    (near-pair (arranged places) (near-arranged places) (rule_of S.exclusion) S.percentile S.s S.w S.h a b))

pub centre-near : (m c : Offset) → Near max_offset m → c ≡ added m m → Near max_centre c
centre-near m c n e = rw e (near_add max_offset max_offset m m n n)

-- What the recursion may rely on.
module _ (first second : ℕ) (S : Setup) (memory : ℕ) (f : Frames first second S memory) where
  pub frames-sides : Sides S.w S.h
  frames-sides = record {
    wide = let p = pow_pos (S.s + 2) in let l = f.wide in omega arith;
    width = f.width;
    high = let p = pow_pos (S.s + 2) in let l = f.high in omega arith;
    height = f.height;
  }

  pub frames-area : S.w * S.h ≤ 16777216
  frames-area = mul-le-mul f.width f.height

  pub frames-quarter : S.w / 2 * (S.h / 2) ≤ 16777216
  frames-quarter =
      let a : S.w / 2 ≤ 4096 = let l = f.width in omega arith in
      let b : S.h / 2 ≤ 4096 = let l = f.height in omega arith in
      mul-le-mul a b

  pub frames-room : 2 * (S.w * S.h) ≤ memory
  frames-room = let a = level-pixels-at S.s S.w S.h in let l = f.room in omega arith

  pub words-room : (words : ℕ) → 6 * (row_words S.w * S.h) ≤ words → 6 * (row_words (S.w / 2) * (S.h / 2)) ≤ words
  unfolding row_words
  words-room words l =
      let a : (S.w / 2 + 63) / 64 ≤ (S.w + 63) / 64 = omega arith in
      let b : S.h / 2 ≤ S.h = omega arith in
      let c = mul-le-mul a b in
      omega arith

  module _ (some : 0 < S.s) where
    pub frames-rest : 2 * (S.w * S.h) + 2 * (S.w / 2 * (S.h / 2)) ≤ memory
    frames-rest =
        let a = level-pixels-step S.s S.w S.h some in
        let b = level-pixels-at (S.s - 1) (S.w / 2) (S.h / 2) in
        let l = f.room in
        omega arith

    halves : 2 ^ (S.s + 2) ≡ 2 * 2 ^ (S.s - 1 + 2)
    halves =
        let e : S.s + 2 ≡ suc (S.s - 1 + 2) = omega arith in
        ap (λ (n : ℕ). 2 ^ n) e ∙ pow-suc 2 (S.s - 1 + 2) ∙ mul_comm (2 ^ (S.s - 1 + 2)) 2

    pub frames-next : Frames 0 (S.w / 2 * (S.h / 2)) (coarser S) (memory - 2 * (S.w * S.h))
    frames-next =
        let p = halves in
        let q = level-pixels-step S.s S.w S.h some in
        record {
          wide = let z = f.wide in omega arith;
          width = let z = f.width in omega arith;
          high = let z = f.high in omega arith;
          height = let z = f.height in omega arith;
          halvings = let z = f.halvings in omega arith;
          percentiles = f.percentiles;
          one = omega arith;
          two = omega arith;
          room = let z = f.room in omega arith;
        }
