-- Blank sky in a whole series (document 02, Paper 1): where the nine counts of each level of each pair are equal, by the least move every frame has the offset (0,0). In Ward's
-- order each frame is as far from the reference as the bound of demand 3 allows.
use Rattle.std.specs.Prelude.{◌≡◌, List, ℕ, suc, ◌+◌, ◌*◌, ◌-◌, ◌^◌, ◌<◌, ℤ, pos, nat_abs, get_or, take, Result, ⊤}
use Rattle.rules.specs.Planes.{distance}
use Rattle.rules.specs.Levels.{still, ward_order, least_move_order}
use Rattle.rules.specs.Series.{Settings, offset_list}
use Rattle.rules.specs.Calls.{series_number, SeriesCall}
use Rattle.rules.specs.BlankSky.{Equal}

-- the offsets of N frames, all (0,0)
abbrev pub Unmoved : Settings → List ℤ → Type 0
Unmoved S offsets = offsets ≡ offset_list S.frames (λ k. still)

-- frame k's offset is in size |k−r|·(2^(s+1)−1) on each axis
pub record Reached (S : Settings) (offsets : List ℤ) : Type 0 where
  pub dx : (k : ℕ) → k < S.frames → nat_abs (get_or offsets (2 * k) (pos 0)) ≡ distance k S.reference * (2 ^ suc S.halvings - 1)
  pub dy : (k : ℕ) → k < S.frames → nat_abs (get_or offsets (2 * k + 1) (pos 0)) ≡ distance k S.reference * (2 ^ suc S.halvings - 1)

-- the s + 1 levels of N − 1 pairs
abbrev pub levels_of : Settings → ℕ
levels_of S = (S.frames - 1) * (S.halvings + 1)

-- What a series call that was accepted has written into its offsets where the counts that it has written are equal, for any rasters and settings (proved in
-- proofs/BlankSeriesLaws.antt as `blank-series`).
pub record BlankSeries : Type 0 where
  pub least_move : (S : Settings) (F : List ℕ) (offsets offsets' : List ℤ) (counts counts' compared compared' grey grey' words words' : List ℕ) (r : Result ⊤ ℕ)
      → series_number S F offsets counts compared grey words ≡ 0 → SeriesCall least_move_order S F offsets offsets' counts counts' compared compared' grey grey' words words' r
      → Equal (levels_of S) counts' → Unmoved S (take (2 * S.frames) offsets')
  pub ward : (S : Settings) (F : List ℕ) (offsets offsets' : List ℤ) (counts counts' compared compared' grey grey' words words' : List ℕ) (r : Result ⊤ ℕ)
      → series_number S F offsets counts compared grey words ≡ 0 → SeriesCall ward_order S F offsets offsets' counts counts' compared compared' grey grey' words words' r
      → Equal (levels_of S) counts' → Reached S (take (2 * S.frames) offsets')
