-- Demand 3, of the definitions: re-exposed series have the same pixel-by-pixel answer, and their offsets are bounded.
use Rattle.std.specs.Prelude.{◌≡◌, List, pos, nat_abs, get_or}
use Prim.Native.Nat.{ℕ, suc, ◌+◌, ◌*◌, ◌-◌, ◌^◌, ◌≤◌, ◌<◌, compare}
use Rattle.rules.specs.Limits.{max_grey}
use Rattle.rules.specs.Frames.{Frame}
use Rattle.rules.specs.Planes.{distance}
use Rattle.rules.specs.declared.Offset.{Offset}
use Rattle.rules.specs.declared.Exclusion.{Exclusion}
use Rattle.rules.specs.Levels.{Arrangement, arranged, ExclusionRule, by_tolerance, by_band, rule_of, tolerance_in, pair}
use Rattle.rules.specs.Series.{Settings, grey_of, Answer, answer_by}
use Rattle.rules.specs.Accepted.{PercentileOk}

-- two grey frames in which any two pixels compare alike: darker, equal or brighter
abbrev pub SameOrder : ℕ → ℕ → Frame → Frame → Type 0
SameOrder w h f f' = (x y u v : ℕ) → x < w → y < h → u < w → v < h → compare (f x y) (f u v) ≡ compare (f' x y) (f' u v)

-- "for each frame and any two of its pixels, their full-size grey values compare in F' as in F"
pub record Reexposed (S : Settings) (F F' : List ℕ) : Type 0 where
  pub alike : (k : ℕ) → k < S.frames → SameOrder S.w S.h (grey_of S F k) (grey_of S F' k)

-- rasters hold bytes
abbrev pub Bytes : List ℕ → Type 0
Bytes F = (i : ℕ) → get_or F i 0 < 256

-- what the theorem needs of accepted settings: the reference is a frame, and each pair has a percentile from 1 to 99
pub record Sound (S : Settings) : Type 0 where
  pub reference : S.reference < S.frames
  pub percentile : (k : ℕ) → k + 1 < S.frames → (1 ≤ get_or S.percentiles k 0) × (get_or S.percentiles k 0 ≤ 99)

-- "frame k's offset is in size at most |k−r|·(2^(s+1)−1) on each axis", of an answer's list: dx at place 2k, dy at 2k + 1
pub record Bounded (S : Settings) (answer : Answer) : Type 0 where
  pub dx : (k : ℕ) → k < S.frames → nat_abs (get_or answer.offsets (2 * k) (pos 0)) ≤ distance k S.reference * (2 ^ suc S.halvings - 1)
  pub dy : (k : ℕ) → k < S.frames → nat_abs (get_or answer.offsets (2 * k + 1) (pos 0)) ≤ distance k S.reference * (2 ^ suc S.halvings - 1)

-- An exclusion rule that sees grey values by their order alone, at a pair's percentile: of a level's thresholds, those for percentiles from 1 to 99, it sees
-- whether a grey value is darker, equal or brighter.
pub record ByOrder (rule : ExclusionRule) (percentile : ℕ) : Type 0 where
  pub alike : (t t' : ℕ → ℕ) (v v' : ℕ) → ((p : ℕ) → 1 ≤ p → p ≤ 99 → compare (t p) v ≡ compare (t' p) v') → rule t percentile v ≡ rule t' percentile v'

-- the same at the percentile of each pair
abbrev pub EachByOrder : ExclusionRule → Settings → Type 0
EachByOrder rule S = (k : ℕ) → k + 1 < S.frames → ByOrder rule (get_or S.percentiles k 0)

-- the grey values of a frame are bytes
abbrev pub GreyBytes : ℕ → ℕ → Frame → Type 0
GreyBytes w h f = (x y : ℕ) → x < w → y < h → f x y ≤ max_grey

-- Demand 3 of one pair of grey frames, in any order of the nine: re-exposed, they have the same answer (proved in proofs/Theorem.antt as `same-pair`).
abbrev pub PairAlike : Type 0
PairAlike =
    (order : List Offset) (rule : ExclusionRule) (percentile s w h : ℕ) → ByOrder rule percentile → 1 ≤ percentile → percentile ≤ 99
    → (a a' b b' : Frame) → GreyBytes w h a → GreyBytes w h a' → GreyBytes w h b → GreyBytes w h b' → SameOrder w h a a' → SameOrder w h b b'
    → pair order rule percentile s w h a b ≡ pair order rule percentile s w h a' b'

-- what holds of a series F and of F', F re-exposed, for an order of the nine and an exclusion rule: the same answer, offsets, counts and compared numbers, and both bounded
pub record Alike (order : List Offset) (rule : ExclusionRule) (S : Settings) (F F' : List ℕ) : Type 0 where
  pub same : answer_by order rule S F ≡ answer_by order rule S F'
  pub bound : Bounded S (answer_by order rule S F)
  pub bound' : Bounded S (answer_by order rule S F')

-- Demand 3 of the definitions: one statement about whole series and every re-exposed one, for every arrangement of the nine and every exclusion rule
-- that sees grey values by their order alone (proved in proofs/Theorem.antt as `demand3`).
abbrev pub Demand3 : Type 0
Demand3 =
    (places : List ℕ) → Arrangement places → (rule : ExclusionRule)
    → (S : Settings) (F F' : List ℕ) → Sound S → EachByOrder rule S → Bytes F → Bytes F' → Reexposed S F F' → Alike (arranged places) rule S F F'

-- "tolerance 0" is one such rule, at every percentile (proved in proofs/OrderLaws.antt as `zero-by-order`).
abbrev pub ZeroByOrder : Type 0
ZeroByOrder = (percentile : ℕ) → 1 ≤ percentile → percentile ≤ 99 → ByOrder (by_tolerance 0) percentile

-- "For every b, re-exposed series answer alike, with the same premise about brightness order and no condition on tolerance" (document 02, Paper 6): so is every
-- band, wherever P−b and P+b are from 1 to 99 (proved there as `band-by-order`).
abbrev pub BandByOrder : Type 0
BandByOrder = (band percentile : ℕ) → band < percentile → percentile + band ≤ 99 → ByOrder (by_band band) percentile

-- So the rule of each accepted setting is one, but for a tolerance above 0 (proved there as `setting-by-order`).
abbrev pub SettingByOrder : Type 0
SettingByOrder = (exclusion : Exclusion) (percentile : ℕ) → tolerance_in exclusion ≡ 0 → PercentileOk exclusion percentile → ByOrder (rule_of exclusion) percentile
