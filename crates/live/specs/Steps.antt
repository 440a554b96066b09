-- The four calls of the live bracket as steps (document 02, Paper 7): what each answers and what the memory holds when it returns, from the memory and the inputs
-- when it began. It "adds a frame at its end, drops its oldest, and tells the offsets, always against its oldest".
use Rattle.std.specs.Prelude.{Bool, false, cond, ◌||◌, List, [], ℕ, zero, suc, ◌+◌, ◌*◌, ◌-◌, ◌^◌, ltb, eqb, ℤ, nat_abs, length}
use Rattle.rules.specs.declared.Offset.{Offset}
use Rattle.rules.specs.declared.Setup.{Setup}
use Rattle.rules.specs.Limits.{max_frames}
use Rattle.rules.specs.Frames.{frame_of, rows}
use Rattle.rules.specs.Greys.{grey_frame}
use Rattle.rules.specs.Levels.{still, aligned_by}
use Rattle.rules.specs.Series.{frame_offset, offset_list}
use Rattle.rules.specs.Refusals.{◌when◌, ◌or_else◌, bad_size, bad_halvings, too_small, bad_tolerance, bad_percentile, wrong_length, short, raster_length, grey_length, short_memory}
use Rattle.rules.specs.Calls.{tolerance_setup}
use Rattle.live.specs.declared.Bracket.{Bracket}
use Rattle.live.specs.Held.{Memory, held_length, bracket_of, held_pair, pairs_in, layout}

-- A call: its inputs beside the memory. Of the buffers that it is lent for its work or its output, the lengths.
pub data Call : Type 0 where
  Start : (w h s tolerance percentile : ℕ) → Call
  Add : (raster : List ℕ) (grey words : ℕ) → Call
  Drop : Call
  Tell : (offsets : ℕ) → Call

-- Refusals.

-- one of the first n offsets is in size above the bound on an axis
unfoldable pub some_far : ℕ → (ℕ → Offset) → ℕ → Bool
some_far bound d zero = false
some_far bound d (suc n) = some_far bound d n || (ltb bound (nat_abs (d n).dx) || ltb bound (nat_abs (d n).dy))

-- "size (a side below 2^(s+2) included), settings, frame number (not 0 to 16)"
unfoldable pub bad_bracket : Bracket → Bool
bad_bracket B =
    bad_size B.w B.h || (bad_halvings B.s || (too_small B.w B.h B.s
    || (bad_tolerance B.tolerance || (bad_percentile B.percentile || ltb max_frames B.frames))))

-- 16. "held memory whose size …, settings, frame number … or pair offsets in use (beyond 2^(s+1)−1) break their limits"
unfoldable pub bad_held : List ℤ → Bool
bad_held numbers =
    bad_bracket (bracket_of numbers) || some_far (2 ^ suc (bracket_of numbers).s - 1) (held_pair numbers) (pairs_in (bracket_of numbers))

-- "the call that starts a series reads none of the memory, never gives 16 and keeps the usual order"; `numbers` and `newest` are the lengths of what it is handed
unfoldable pub start_number : ℕ → ℕ → ℕ → ℕ → ℕ → ℕ → ℕ → ℕ
start_number w h s tolerance percentile numbers newest =
    2 when bad_size w h
    or_else 3 when bad_halvings s
    or_else 4 when too_small w h s
    or_else 5 when bad_tolerance tolerance
    or_else 8 when bad_percentile percentile
    or_else 9 when (wrong_length held_length numbers || wrong_length (grey_length w h) newest)

-- 16 is "tested before all others but the length of the 36 numbers"; `bad` says whether the held memory breaks a limit. "A seventeenth frame is refused by 6."
unfoldable pub add_number : Bool → Bracket → ℕ → ℕ → ℕ → ℕ → ℕ → ℕ
add_number bad B numbers newest raster grey words =
    9 when wrong_length held_length numbers
    or_else 16 when bad
    or_else 6 when eqb B.frames max_frames
    or_else 9 when (wrong_length (grey_length B.w B.h) newest || wrong_length (raster_length B.w B.h) raster)
    or_else 11 when short_memory B.s B.w B.h grey words

-- 16 is also "a drop with nothing held"
unfoldable pub drop_number : Bool → Bracket → ℕ → ℕ → ℕ
drop_number bad B numbers newest =
    9 when wrong_length held_length numbers
    or_else 16 when (bad || eqb B.frames 0)
    or_else 9 when wrong_length (grey_length B.w B.h) newest

unfoldable pub tell_number : Bool → Bracket → ℕ → ℕ → ℕ → ℕ
tell_number bad B numbers newest offsets =
    9 when wrong_length held_length numbers
    or_else 16 when bad
    or_else 9 when wrong_length (grey_length B.w B.h) newest
    or_else 10 when short (2 * B.frames) offsets

-- the refusal number of a call that is handed this memory, 0 where none applies
unfoldable pub number_of : Memory → Call → ℕ
number_of m (Start w h s tolerance percentile) = start_number w h s tolerance percentile (length m.numbers) (length m.newest)
number_of m (Add raster grey words) =
    add_number (bad_held m.numbers) (bracket_of m.numbers) (length m.numbers) (length m.newest) (length raster) grey words
number_of m Drop = drop_number (bad_held m.numbers) (bracket_of m.numbers) (length m.numbers) (length m.newest)
number_of m (Tell offsets) = tell_number (bad_held m.numbers) (bracket_of m.numbers) (length m.numbers) (length m.newest) offsets

-- What an accepted call does.

-- a bracket of this size and these settings, "empty"
abbrev pub empty_of : ℕ → ℕ → ℕ → ℕ → ℕ → Bracket
empty_of w h s tolerance percentile = record { w = w; h = h; s = s; tolerance = tolerance; percentile = percentile; frames = 0 }

-- the same bracket with another number of frames
abbrev pub holding : Bracket → ℕ → Bracket
holding B n = record { w = B.w; h = B.h; s = B.s; tolerance = B.tolerance; percentile = B.percentile; frames = n }

-- how a bracket's pairs are aligned
abbrev pub setup_in : Bracket → Setup
setup_in B = tolerance_setup B.w B.h B.s B.tolerance B.percentile

-- "An add aligns at most one pair": the newest frame, from its grey, and the new one, from its raster.
unfoldable pub new_pair : List Offset → Bracket → List ℕ → List ℕ → Offset
new_pair order B newest raster = (aligned_by order (setup_in B) (frame_of B.w newest) (grey_frame B.w raster)).offset

-- offset k put to the others
unfoldable pub extended : (ℕ → Offset) → ℕ → Offset → ℕ → Offset
extended d k m j = cond (eqb j k) m (d j)

-- "starts empty with fixed size, s, T and one percentile for all pairs"; the newest grey is "free while none is held"
unfoldable pub started : ℕ → ℕ → ℕ → ℕ → ℕ → Memory → Memory
started w h s tolerance percentile m = record {
  numbers = layout (empty_of w h s tolerance percentile) (λ k. still);
  newest = m.newest;
}

-- one frame more at the end: the pair of the newest and the new one after the others, and the new frame's grey. The first frame makes no pair.
unfoldable pub grown : List Offset → List ℕ → Memory → Memory
grown order raster m =
    let B : Bracket = bracket_of m.numbers in
    record {
      numbers = layout (holding B (B.frames + 1)) (extended (held_pair m.numbers) (pairs_in B) (new_pair order B m.newest raster));
      newest = rows B.w B.h (grey_frame B.w raster);
    }

-- the oldest frame and its pair less; nothing is aligned again
unfoldable pub shrunk : Memory → Memory
shrunk m =
    let B : Bracket = bracket_of m.numbers in
    record {
      numbers = layout (holding B (B.frames - 1)) (λ k. held_pair m.numbers (k + 1));
      newest = m.newest;
    }

-- the offsets of the frames held, "always against its oldest": dx and dy of each, oldest first
unfoldable pub offsets_held : List ℤ → List ℤ
offsets_held numbers = offset_list (bracket_of numbers).frames (frame_offset (held_pair numbers) 0)

-- the memory that an accepted call leaves
unfoldable pub made : List Offset → Memory → Call → Memory
made order m (Start w h s tolerance percentile) = started w h s tolerance percentile m
made order m (Add raster grey words) = grown order raster m
made order m Drop = shrunk m
made order m (Tell offsets) = m

-- of how many frames an accepted call tells the offsets, and the offsets
unfoldable pub frames_in : Memory → Call → ℕ
frames_in m (Start w h s tolerance percentile) = 0
frames_in m (Add raster grey words) = 0
frames_in m Drop = 0
frames_in m (Tell offsets) = (bracket_of m.numbers).frames

unfoldable pub offsets_in : Memory → Call → List ℤ
offsets_in m (Start w h s tolerance percentile) = []
offsets_in m (Add raster grey words) = []
offsets_in m Drop = []
offsets_in m (Tell offsets) = offsets_held m.numbers

-- what an accepted call makes, and what stays where it is refused
abbrev pub if_accepted : {A : Type 0} → ℕ → A → A → A
if_accepted zero makes stays = makes
if_accepted (suc n) makes stays = stays

-- a call's answer: its refusal number or 0, of how many frames it told, and the offsets that it wrote
pub record Reply : Type 0 where
  pub number : ℕ
  pub frames : ℕ
  pub offsets : List ℤ

pub record Step : Type 0 where
  pub reply : Reply
  pub memory : Memory

-- THE STEP of a call, in an order of the nine
unfoldable pub step : List Offset → Memory → Call → Step
step order m c = record {
  reply = record { number = number_of m c; frames = if_accepted (number_of m c) (frames_in m c) 0; offsets = if_accepted (number_of m c) (offsets_in m c) [] };
  memory = if_accepted (number_of m c) (made order m c) m;
}
