-- Texts put one after another.
use mathlib.Core.Path.{◌≡◌, refl, sym, ap, subst, ◌∙◌}
use mathlib.Core.List.{List, [], ◌++◌, append-nil}
use Prim.Native.Nat.{ℕ, ◌+◌, ◌-◌, ◌≤◌}
use native.Mathlib.Nat.{zero-add, add-zero}
use native.Mathlib.Omega.{arith}
use lib.ListN.{length, take, drop, length-append, take-append-drop}
use borrow.Author.Rules.{part_to_end}
use Rattle.rules.specs.Frames.{written_over}
use Rattle.text.specs.Puts.{Put}
use Rattle.text.proofs.PutLaws.{put-length, put_then, put_written}
use Rattle.output_lines.specs.Lines.{levels_text}
use Rattle.output_lines.specs.Writes.{Wrote}

pub wrote_none : (at : ℕ) (before : List ℕ) → at ≤ length before → Wrote at [] before at before
wrote_none at before room = record {
  place = omega arith;
  output = record {
    room = omega arith;
    is = sym (ap (λ (l : List ℕ). l ++ drop (at + 0) before) (append-nil (take at before)) ∙ rw add-zero (take-append-drop at before));
  };
  kept = refl;
}

pub wrote_one : (at : ℕ) (text before : List ℕ) (next : ℕ) (after : List ℕ) → (next ≡ at + length text) × Put at text before after
    → Wrote at text before next after
wrote_one at text before next after p = record { place = p.0; output = p.1; kept = put-length at text before after p.1 }

pub wrote-more : (at : ℕ) (t u before : List ℕ) (next : ℕ) (mid : List ℕ) (last : ℕ) (after : List ℕ)
    → Wrote at t before next mid → Wrote next u mid last after → Wrote at (t ++ u) before last after
wrote-more at t u before next mid last after a b = record {
  place = let p = a.place in let q = b.place in let l = length-append t u in omega arith;
  output = put_then at t u before mid after a.output (subst (λ (n : ℕ). Put n u mid after) a.place b.output);
  kept = b.kept ∙ a.kept;
}

-- the next piece, put by a function of `text`
pub wrote_then : (at : ℕ) (t u before : List ℕ) (next : ℕ) (mid : List ℕ) (last : ℕ) (after : List ℕ)
    → Wrote at t before next mid → (last ≡ next + length u) × Put next u mid after → Wrote at (t ++ u) before last after
wrote_then at t u before next mid last after a p = wrote-more at t u before next mid last after a (wrote_one next u mid last after p)

-- the lines of the counts lent from the tenth on
pub rest-lent : (at s : ℕ) (counts before : List ℕ) (next : ℕ) (after : List ℕ) → Wrote at (levels_text s (take (length counts - 9) (drop 9 counts))) before next after
    → Wrote at (levels_text s (drop 9 counts)) before next after
rest-lent at s counts before next after w = rw (part_to_end counts 9) at w

-- a whole output at the beginning of its buffer
pub wrote-all : (text before : List ℕ) (next : ℕ) (after : List ℕ) → Wrote 0 text before next after
    → (next ≡ length text) × (after ≡ written_over text before)
wrote-all text before next after w = (w.place ∙ zero-add (length text), put_written text before after w.output)
