-- What is used of the memory: the bracket, the pairs in use, and the newest frame where one is held.
use mathlib.Core.Path.{◌≡◌, refl, sym, subst, ◌∙◌}
use mathlib.Core.List.{List}
use Prim.Native.Nat.{ℕ, ◌+◌, ◌*◌, ◌≤◌, ◌<◌}
use native.Mathlib.Omega.{arith}
use lib.IntN.{ℤ, pos}
use lib.ListN.{get_or}
use Rattle.rules.specs.declared.Offset.{Offset}
use Rattle.rules.specs.Limits.{max_frames}
use Rattle.rules.specs.Frames.{Frame, SameFrame, frame_of}
use Rattle.rules.proofs.FrameLaws.{pixel-fits}
use Rattle.live.specs.declared.Bracket.{Bracket}
use Rattle.live.specs.Held.{Memory, held_length, bracket_of, held_pair, pairs_in}
use Rattle.live.proofs.HeldLaws.{bracket-same, pair_same}

pub record Used : Type 0 where
  pub bracket : Bracket
  pub pairs : ℕ → Offset
  pub frame : Frame

-- numbers that hold them
pub record Numbered (u : Used) (l : List ℤ) : Type 0 where
  pub bracket : bracket_of l ≡ u.bracket
  pub pairs : (k : ℕ) → k < pairs_in u.bracket → held_pair l k ≡ u.pairs k

-- a newest grey that shows the frame, where one is held
abbrev pub Shows : Used → List ℕ → Type 0
Shows u newest = 0 < u.bracket.frames → SameFrame u.bracket.w u.bracket.h (frame_of u.bracket.w newest) u.frame

pub record Uses (u : Used) (m : Memory) : Type 0 where
  pub numbered : Numbered u m.numbers
  pub shows : Shows u m.newest

-- a memory's own
abbrev pub used_of : Memory → Used
used_of m = record { bracket = bracket_of m.numbers; pairs = held_pair m.numbers; frame = frame_of (bracket_of m.numbers).w m.newest }

pub uses-own : (m : Memory) → Uses (used_of m) m
uses-own m = record { numbered = record { bracket = refl; pairs = λ k l. refl }; shows = λ l x y i j. refl }

-- What is used, known otherwise.
pub uses-ext : (u v : Used) (m : Memory) → u.bracket ≡ v.bracket → ((k : ℕ) → k < pairs_in u.bracket → u.pairs k ≡ v.pairs k)
    → (0 < u.bracket.frames → SameFrame u.bracket.w u.bracket.h u.frame v.frame) → Uses u m → Uses v m
uses-ext u v m e pairs frames r = record {
  numbered = record {
    bracket = r.numbered.bracket ∙ e;
    pairs = λ k l. let l' : k < pairs_in u.bracket = subst (λ (B : Bracket). k < pairs_in B) (sym e) l in r.numbered.pairs k l' ∙ pairs k l';
  };
  shows =
      subst (λ (B : Bracket). 0 < B.frames → SameFrame B.w B.h (frame_of B.w m.newest) v.frame) e (λ l x y i j. r.shows l x y i j ∙ frames l x y i j);
}

-- Only the 36 numbers and the frame's w·h bytes are read.
pub numbered-same : (u : Used) (l l' : List ℤ) → u.bracket.frames ≤ max_frames → ((i : ℕ) → i < held_length → get_or l' i (pos 0) ≡ get_or l i (pos 0))
    → Numbered u l → Numbered u l'
numbered-same u l l' few same r = record {
  bracket = bracket-same l' l (λ i k. same i (omega arith)) ∙ r.bracket;
  pairs = λ k j. pair_same l' l k (same (6 + 2 * k) (omega arith)) (same (6 + (2 * k + 1)) (omega arith)) ∙ r.pairs k j;
}

pub shows_same : (u : Used) (l l' : List ℕ) → ((i : ℕ) → i < u.bracket.w * u.bracket.h → get_or l' i 0 ≡ get_or l i 0) → Shows u l → Shows u l'
unfolding frame_of
shows_same u l l' same r p x y i j =
    same (y * u.bracket.w + x) (pixel-fits u.bracket.w u.bracket.h x y i j) ∙ r p x y i j
