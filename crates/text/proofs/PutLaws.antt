-- Laws of text put into a buffer, piece after piece.
use mathlib.Core.Path.{◌≡◌, sym, ap, ◌∙◌}
use mathlib.Core.List.{List, [], ◌∷◌, ◌++◌, append_assoc}
use Prim.Native.Nat.{ℕ, suc, ◌+◌, ◌≤◌, ◌<◌}
use native.Mathlib.Nat.{zero-add}
use native.Mathlib.Numerals.{add-one}
use native.Mathlib.Omega.{arith}
use lib.ListN.{length, take, drop, set, length-append, length-drop}
use lib.Seq.{length-take-le, append_snoc, set_split, take_at, drop-append-add, drop-drop}
use Rattle.rules.specs.Frames.{written_over}
use Rattle.text.specs.Puts.{Put}

-- what stands up to the end of the text
head-length : (at : ℕ) (t b : List ℕ) → at + length t ≤ length b → length (take at b ++ t) ≡ at + length t
head-length at t b room = length-append (take at b) t ∙ ap (λ (k : ℕ). k + length t) (length-take-le at b (omega arith))

pub put-length : (at : ℕ) (t b a : List ℕ) → Put at t b a → length a ≡ length b
put-length at t b a p =
    ap length p.is
    ∙ length-append (take at b ++ t) (drop (at + length t) b)
    ∙ (let h = head-length at t b p.room in let d = length-drop (at + length t) b in let r = p.room in omega arith)

pub put_one : (at x : ℕ) (b : List ℕ) → at < length b → Put at (x ∷ []) b (set b at x)
put_one at x b l = record {
  room = omega arith;
  is = set_split b at x l ∙ rw (add-one at) (sym (append_snoc (take at b) x (drop (suc at) b)));
}

-- two pieces one after the other
pub put_then : (at : ℕ) (t u b m a : List ℕ) → Put at t b m → Put (at + length t) u m a → Put at (t ++ u) b a
put_then at t u b m a p q = record {
  room = let l = put-length at t b m p in let r = q.room in rw (length-append t u) (omega arith);
  is = q.is ∙ rw (p.is, begun, ended, length-append t u) (ap (λ (h : List ℕ). h ++ drop (at + (length t + length u)) b) (append_assoc (take at b) t u));
}
  where
    n : ℕ
    n = at + length t

    begun : take n (take at b ++ t ++ drop n b) ≡ take at b ++ t
    begun = take_at (take at b ++ t) (drop n b) n (head-length at t b p.room)

    sums : n + length u ≡ at + (length t + length u)
    sums = omega arith

    ended : drop (n + length u) (take at b ++ t ++ drop n b) ≡ drop (at + (length t + length u)) b
    ended =
        ap (λ (k : ℕ). drop (k + length u) (take at b ++ t ++ drop n b)) (sym (head-length at t b p.room))
        ∙ drop-append-add (take at b ++ t) (drop n b) (length u)
        ∙ drop-drop (length u) n b
        ∙ ap (λ (k : ℕ). drop k b) sums

pub put_written : (t b a : List ℕ) → Put 0 t b a → a ≡ written_over t b
put_written t b a p = p.is ∙ rw (zero-add (length t))
