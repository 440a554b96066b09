-- The offset of a quadrant (document 02, Paper 4): "Align the four quadrants of a pair separately".
use Rattle.std.specs.Prelude.{List, ℕ, ◌/◌}
use Rattle.rules.specs.declared.Offset.{Offset}
use Rattle.rules.specs.declared.Setup.{Setup}
use Rattle.rules.specs.Calls.{pair_result}
use Rattle.crop.specs.declared.Quadrant.{Quadrant}
use Rattle.crop.specs.Crops.{cropped}
use Rattle.crop.specs.Quadrants.{quadrant_crop}

-- a quadrant's sides, with the settings of the frame
abbrev pub quadrant_setup : Setup → Setup
quadrant_setup S = record { w = S.w / 2; h = S.h / 2; s = S.s; percentile = S.percentile; exclusion = S.exclusion }

-- a quadrant of the frame's raster
abbrev pub quadrant_raster : Setup → Quadrant → List ℕ → List ℕ
quadrant_raster S q raster = cropped S.w (quadrant_crop S.w S.h q) raster

-- "A quadrant's offset equals that of the same pixels cropped and aligned as a pair."
unfoldable pub quadrant_offset : List Offset → Setup → List ℕ → List ℕ → Quadrant → Offset
quadrant_offset order S first second q = (pair_result order (quadrant_setup S) (quadrant_raster S q first) (quadrant_raster S q second)).offset
