-- The limits that the documents set, by name.
use Rattle.std.specs.Prelude.{ℕ}

-- "A frame has width w and height h, each 1 to 4096."
abbrev pub max_side : ℕ
max_side = 4096

-- "T is the tolerance, 0 to 64."
abbrev pub max_tolerance : ℕ
max_tolerance = 64

-- "a band b from 0 to 16 in place of T" (document 02, Paper 6)
abbrev pub max_band : ℕ
max_band = 16

-- the brightest grey value that a byte holds
abbrev pub max_grey : ℕ
max_grey = 255

-- "A bitmap row is W = ceil(w/64) words of 64 bits."
abbrev pub word_bits : ℕ
word_bits = 64

-- "A pair has s halvings, 0 to 8"
abbrev pub max_halvings : ℕ
max_halvings = 8

-- "A series has N frames, 1 to 16"
abbrev pub max_frames : ℕ
max_frames = 16

-- document 000's function reaches 2^(s+1)−1 on an axis: the farthest offset of a pair, with 8 halvings
abbrev pub max_offset : ℕ
max_offset = 511

-- the farthest centre of a level, an offset doubled, and the farthest candidate around it
abbrev pub max_centre : ℕ
max_centre = 1022

abbrev pub max_candidate : ℕ
max_candidate = 1023
