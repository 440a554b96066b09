-- Demand 3 of the live bracket, which demand 3 was made for ("so does the live bracket planned after it"): at tolerance 0, two lists of calls whose rasters are re-exposed
-- frame by frame answer alike, and tell the same offsets.
use Rattle.std.specs.Prelude.{◌≡◌, List, [], ◌∷◌, length}
use Prim.Native.Nat.{ℕ, ◌*◌, ◌<◌, compare}
use Rattle.rules.specs.declared.Offset.{Offset}
use Rattle.reexposure.specs.Reexposure.{Bytes}
use Rattle.grey.specs.GreyPlaces.{grey_at}
use Rattle.live.specs.Held.{Memory}
use Rattle.live.specs.Steps.{Call, start_number}
use Rattle.live_theorems.specs.Runs.{Handed, Within, replies}
use Rattle.live_theorems.specs.LiveLaw.{starting}

-- A raster and another one, both of bytes and of one length, in which "any two pixels compare in grey (darker, equal, brighter)" as in the first; pixel i is counted flat.
pub record ReexposedRaster (raster raster' : List ℕ) : Type 0 where
  pub bytes : Bytes raster
  pub bytes' : Bytes raster'
  pub size : length raster' ≡ length raster
  pub alike : (i j : ℕ) → 3 * i < length raster → 3 * j < length raster → compare (grey_at raster i) (grey_at raster j) ≡ compare (grey_at raster' i) (grey_at raster' j)

-- two calls that are alike but for the raster, at tolerance 0
pub data AlikeCall : Call → Call → Type 0 where
  start : (w h s percentile : ℕ) → AlikeCall (Call.Start w h s 0 percentile) (Call.Start w h s 0 percentile)
  add : (raster raster' : List ℕ) (grey words : ℕ) → ReexposedRaster raster raster' → AlikeCall (Call.Add raster grey words) (Call.Add raster' grey words)
  drop : AlikeCall Call.Drop Call.Drop
  tell : (offsets : ℕ) → AlikeCall (Call.Tell offsets) (Call.Tell offsets)

-- two lists of such calls, of one length, each call handed as much of its memory as its partner
pub data AlikeCalls : List Handed → List Handed → Type 0 where
  none : AlikeCalls [] []
  more : (numbers newest : ℕ) (c d : Call) (cs ds : List Handed) → AlikeCall c d → AlikeCalls cs ds
      → AlikeCalls (record { numbers = numbers; newest = newest; call = c } ∷ cs) (record { numbers = numbers; newest = newest; call = d } ∷ ds)

-- Each after an accepted start at tolerance 0, on memories of their own (proved in proofs/ReexposedLaws.antt as `reexposed-alike`).
abbrev pub ReexposedAlike : List Offset → Type 0
ReexposedAlike order =
    (m m' : Memory) (numbers newest w h s percentile : ℕ) (cs cs' : List Handed)
    → Within m (starting numbers newest w h s 0 percentile ∷ cs) → Within m' (starting numbers newest w h s 0 percentile ∷ cs')
    → start_number w h s 0 percentile numbers newest ≡ 0 → AlikeCalls cs cs'
    → replies order m (starting numbers newest w h s 0 percentile ∷ cs) ≡ replies order m' (starting numbers newest w h s 0 percentile ∷ cs')
