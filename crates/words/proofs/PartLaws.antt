-- A part of a list that was lent, and came back with other numbers.
use mathlib.Core.Path.{◌≡◌, ap, ◌∙◌}
use mathlib.Core.List.{List, ◌++◌}
use Prim.Native.Nat.{ℕ, ◌+◌, ◌≤◌, ◌<◌}
use native.Mathlib.Omega.{arith}
use lib.ListN.{length, get_or, take, get_or-append}
use lib.Seq.{get_or-append-add}
use borrow.Rule.Slice.PartMut.{put_mid, post_of}
use Rattle.std.proofs.lemmas.Grind.{common_steps}
use Rattle.rules.specs.Buffers.{RowAt}

pub row-put : (to n : ℕ) (f : ℕ → ℕ) (before part : List ℕ) → length part ≡ n → to + n ≤ length before → ((k : ℕ) → k < n → get_or part k 0 ≡ f k)
    → RowAt to f before n (put_mid to n before part)
row-put to n f before part l room e = record {
  len = grind (arith, common_steps);
  under = λ m i. grind (arith, common_steps);
  done = done;
  over = λ m i. grind (arith, common_steps);
}
  where
    done : (k : ℕ) → k < n → get_or (put_mid to n before part) (to + k) 0 ≡ f k
    done k i =
        let p : to + k ≡ length (take to before) + k = grind (arith, common_steps) in
        ap (λ (x : ℕ). get_or (put_mid to n before part) x 0) p
        ∙ get_or-append-add (take to before) (part ++ post_of to n before) k 0
        ∙ get_or-append part (post_of to n before) 0 k (omega arith)
        ∙ e k i
