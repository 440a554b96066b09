-- Laws of the refusal numbers of pair and series: what an accepted call knows, and the work memory that it needs.
use mathlib.Core.Path.{◌≡◌, refl}
use mathlib.Core.Bool.{Bool, false, ◌||◌}
use mathlib.Core.List.{List, [], ◌∷◌}
use Prim.Native.Nat.{ℕ, zero, suc, ◌+◌, ◌*◌, ◌-◌, ◌/◌, ◌^◌, ◌≤◌, ◌<◌}
use native.Mathlib.Nat.{mul-le-mul, mul-mul-mul_comm, le_refl, le_of_suc-le-suc}
use native.Mathlib.Omega.{arith}
use lib.Dec.{ltb, eqb}
use lib.ListN.{length, get_or}
use borrow.Author.Tests.{ltb-true, ltb-false, eqb-false, not-false}
use Rattle.rules.specs.declared.Exclusion.{Exclusion}
use Rattle.rules.specs.Limits.{max_band, max_halvings, max_frames}
use Rattle.rules.specs.Refusals.{◌when◌, ◌or_else◌, shape_refusal, bad_size, bad_halvings, too_small, bad_band, bad_frames, bad_reference, bad_percentile, some_bad_percentile, bad_percentiles}
use Rattle.rules.specs.Refusals.{wrong_length, short, raster_length, counts_length, level_pixels, grey_needed, words_needed, short_memory, pair_refusal, series_refusal}
use Rattle.rules.specs.Accepted.{ShapeOk, PercentileOk, PairOk, FramesOk, SeriesOk}
use Rattle.rules.specs.Levels.{band_in}
use Rattle.rules.specs.Calls.{exclusion_refusal}
use Rattle.rules.proofs.RefusalLaws.{when-no, or_else-no, or_no, size_ok, length-is, length-no, percentile-ok}

-- A number of three conditions that is 0, and the rest.
three-no : (a b c rest : ℕ) → a or_else b or_else c or_else rest ≡ 0 → (a or_else b or_else c ≡ 0) × (rest ≡ 0)
three-no zero zero zero rest e = (refl, e)
three-no zero zero (suc c) rest e = absurd (omega arith)
three-no zero (suc b) c rest e = absurd (omega arith)
three-no (suc a) b c rest e = absurd (omega arith)

pub shape-ok : (w h s : ℕ) → shape_refusal w h s ≡ 0 → ShapeOk w h s
unfolding bad_halvings too_small
shape-ok w h s e =
    let least : ℕ = 2 ^ (s + 2) in
    let n4 : ℕ = 4 when (ltb w least || ltb h least) in
    let n3 : ℕ = 3 when bad_halvings s in
    let p = or_else-no (2 when bad_size w h) (n3 or_else n4) e in
    let q = or_else-no n3 n4 p.1 in
    let t = or_no (ltb w least) (ltb h least) (when-no 4 (ltb w least || ltb h least) (omega arith) q.1) in
    record {
      size = size_ok w h p.0;
      halvings = ltb-false max_halvings s (when-no 3 (bad_halvings s) (omega arith) q.0);
      wide = ltb-false w least t.0;
      high = ltb-false h least t.1;
    }

-- The pixels of all levels: a level and those below it, at most twice the first.
pub level-pixels-step : (s w h : ℕ) → 0 < s → level_pixels s w h ≡ w * h + level_pixels (s - 1) (w / 2) (h / 2)
unfolding level_pixels
level-pixels-step zero w h l = absurd (omega arith)
level-pixels-step (suc s) w h l = let z : suc s - 1 ≡ s = omega arith in rw z

pub level-pixels-at : (s w h : ℕ) → w * h ≤ level_pixels s w h
unfolding level_pixels
level-pixels-at zero w h = le_refl (w * h)
level-pixels-at (suc s) w h = omega arith

quarter : (w h : ℕ) → 4 * (w / 2 * (h / 2)) ≤ w * h
quarter w h =
    let v : 2 * (w / 2) ≤ w = omega arith in
    let u : 2 * (h / 2) ≤ h = omega arith in
    rw (mul-mul-mul_comm 2 (w / 2) 2 (h / 2)) at (mul-le-mul v u)

pub level-pixels-le : (s w h : ℕ) → level_pixels s w h ≤ 2 * (w * h)
unfolding level_pixels
level-pixels-le zero w h = omega arith
level-pixels-le (suc s) w h = omega (arith, level-pixels-le s (w / 2) (h / 2), quarter w h)

pub level-pixels-fit : (s w h : ℕ) → w ≤ 4096 → h ≤ 4096 → level_pixels s w h ≤ 33554432
level-pixels-fit s w h v u = omega (arith, level-pixels-le s w h, mul-le-mul v u)

-- What an accepted call knows.
memory-ok : (s w h grey words : ℕ) → 11 when short_memory s w h grey words ≡ 0 → (grey_needed s w h ≤ grey) × (words_needed w h ≤ words)
memory-ok s w h grey words e =
    let g : Bool = short (grey_needed s w h) grey in
    let v : Bool = short (words_needed w h) words in
    let p = or_no g v (when-no 11 (g || v) (omega arith) e) in
    (ltb-false grey (grey_needed s w h) p.0, ltb-false words (words_needed w h) p.1)

-- With b at most 16 and P one of 17, 50 and 83, P−b is at least 1 and P+b at most 99.
band-ok : (exclusion : Exclusion) → exclusion_refusal exclusion ≡ 0 → band_in exclusion ≤ max_band
unfolding bad_band
band-ok (Exclusion.Tolerance tolerance) e = omega arith
band-ok (Exclusion.Band band) e = ltb-false max_band band (when-no 15 (bad_band band) (omega arith) e)

percentiles-in : (exclusion : Exclusion) (p : ℕ) → exclusion_refusal exclusion ≡ 0 → bad_percentile p ≡ false → PercentileOk exclusion p
percentiles-in exclusion p e f =
    let a = band-ok exclusion e in
    let b = percentile-ok p f in
    record { least = omega arith; most = omega arith }

pub pair_ok : (w h s : ℕ) (exclusion : Exclusion) (percentile first second counts compared grey words : ℕ)
    → pair_refusal w h s (exclusion_refusal exclusion) percentile first second counts compared grey words ≡ 0
    → PairOk w h s exclusion percentile first second counts compared grey words
unfolding pair_refusal
pair_ok w h s exclusion percentile first second counts compared grey words e =
    let excluded : ℕ = exclusion_refusal exclusion in
    let wrong1 : Bool = wrong_length (raster_length w h) first in
    let wrong2 : Bool = wrong_length (raster_length w h) second in
    let n11 : ℕ = 11 when short_memory s w h grey words in
    let short1 : Bool = short (counts_length s) counts in
    let short2 : Bool = short (counts_length s) compared in
    let n10 : ℕ = 10 when (short1 || short2) in
    let n9 : ℕ = 9 when (wrong1 || wrong2) in
    let n8 : ℕ = 8 when bad_percentile percentile in
    let rest : ℕ = n8 or_else n9 or_else n10 or_else n11 in
    let a = three-no (2 when bad_size w h) (3 when bad_halvings s) (4 when too_small w h s) (excluded or_else rest) e in
    let x = or_else-no excluded rest a.1 in
    let b = or_else-no n8 (n9 or_else n10 or_else n11) x.1 in
    let c = or_else-no n9 (n10 or_else n11) b.1 in
    let d = or_else-no n10 n11 c.1 in
    let q = or_no wrong1 wrong2 (when-no 9 (wrong1 || wrong2) (omega arith) c.0) in
    let r = or_no short1 short2 (when-no 10 (short1 || short2) (omega arith) d.0) in
    let m = memory-ok s w h grey words d.1 in
    record {
      shape = shape-ok w h s a.0;
      percentiles = percentiles-in exclusion percentile x.0 (when-no 8 (bad_percentile percentile) (omega arith) b.0);
      exact1 = length-is (raster_length w h) first q.0;
      exact2 = length-is (raster_length w h) second q.1;
      room1 = ltb-false counts (counts_length s) r.0;
      room2 = ltb-false compared (counts_length s) r.1;
      greys = m.0;
      bitmaps = m.1;
    }

pub frames-ok : (excluded n r : ℕ) → excluded or_else 6 when bad_frames n or_else 7 when bad_reference n r ≡ 0 → FramesOk n r
unfolding bad_frames bad_reference
frames-ok excluded n r e =
    let p = or_else-no (6 when bad_frames n) (7 when bad_reference n r) (or_else-no excluded (6 when bad_frames n or_else 7 when bad_reference n r) e).1 in
    let q = or_no (eqb n 0) (ltb max_frames n) (when-no 6 (bad_frames n) (omega arith) p.0) in
    let z = eqb-false n 0 q.0 in
    record {
      least = omega arith;
      most = ltb-false max_frames n q.1;
      reference = ltb-true r n (not-false (ltb r n) (when-no 7 (bad_reference n r) (omega arith) p.1));
    }

-- no percentile of a list is bad
percentiles-ok : (ps : List ℕ) → some_bad_percentile ps ≡ false → (k : ℕ) → k < length ps → bad_percentile (get_or ps k 0) ≡ false
unfolding some_bad_percentile
percentiles-ok [] e k l = absurd (omega arith)
percentiles-ok (p ∷ ps) e zero l = (or_no (bad_percentile p) (some_bad_percentile ps) e).0
percentiles-ok (p ∷ ps) e (suc k) l = percentiles-ok ps (or_no (bad_percentile p) (some_bad_percentile ps) e).1 k (le_of_suc-le-suc l)

pub series-ok : (w h s : ℕ) (exclusion : Exclusion) (n r : ℕ) (ps : List ℕ) (rasters offsets counts compared grey words : ℕ)
    → series_refusal w h s (exclusion_refusal exclusion) n r ps rasters offsets counts compared grey words ≡ 0
    → SeriesOk w h s exclusion n r ps rasters offsets counts compared grey words
unfolding series_refusal bad_percentiles
series-ok w h s exclusion n r ps rasters offsets counts compared grey words e =
    let excluded : ℕ = exclusion_refusal exclusion in
    let short1 : Bool = short (2 * n) offsets in
    let short2 : Bool = short (counts_length s * (n - 1)) counts in
    let short3 : Bool = short (counts_length s * (n - 1)) compared in
    let wrong : Bool = wrong_length (n - 1) (length ps) in
    let n11 : ℕ = 11 when short_memory s w h grey words in
    let n10 : ℕ = 10 when (short1 || (short2 || short3)) in
    let n9 : ℕ = 9 when wrong_length (n * raster_length w h) rasters in
    let n8 : ℕ = 8 when (wrong || some_bad_percentile ps) in
    let rest : ℕ = n8 or_else n9 or_else n10 or_else n11 in
    let n7 : ℕ = 7 when bad_reference n r in
    let n6 : ℕ = 6 when bad_frames n in
    let a = three-no (2 when bad_size w h) (3 when bad_halvings s) (4 when too_small w h s) (excluded or_else n6 or_else n7 or_else rest) e in
    let b = three-no excluded n6 n7 rest a.1 in
    let c = or_else-no n8 (n9 or_else n10 or_else n11) b.1 in
    let d = or_else-no n9 (n10 or_else n11) c.1 in
    let g = or_else-no n10 n11 d.1 in
    let f = frames-ok excluded n r b.0 in
    let p = or_no wrong (some_bad_percentile ps) (when-no 8 (wrong || some_bad_percentile ps) (omega arith) c.0) in
    let many : length ps ≡ n - 1 = length-is (n - 1) (length ps) p.0 in
    let q = or_no short1 (short2 || short3) (when-no 10 (short1 || (short2 || short3)) (omega arith) g.0) in
    let t = or_no short2 short3 q.1 in
    let m = memory-ok s w h grey words g.1 in
    record {
      shape = shape-ok w h s a.0;
      frames = (f.least, f.most);
      reference = f.reference;
      percentiles = many;
      percentile = λ j l. percentiles-in exclusion (get_or ps j 0) (or_else-no excluded (n6 or_else n7) b.0).0 (percentiles-ok ps p.1 j (omega arith));
      exact = length-no (n * raster_length w h) rasters d.0;
      room1 = ltb-false offsets (2 * n) q.0;
      room2 = ltb-false counts (counts_length s * (n - 1)) t.0;
      room3 = ltb-false compared (counts_length s * (n - 1)) t.1;
      greys = m.0;
      bitmaps = m.1;
    }
