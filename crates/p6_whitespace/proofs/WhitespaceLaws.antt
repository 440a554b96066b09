-- The grammar of whitespace: each piece is found where it stands, and what is found is such a piece.
use mathlib.Core.Path.{◌≡◌, refl, sym, ap, ◌∙◌}
use mathlib.Core.Bool.{Bool, true, false, not, cond}
use mathlib.Core.List.{List, [], ◌∷◌, ◌++◌, append_assoc}
use Prim.Native.Nat.{ℕ, zero, suc, ◌+◌, ◌≤◌, ◌<◌}
use native.Mathlib.Nat.{add-zero}
use native.Mathlib.Numerals.{add-one}
use native.Mathlib.Omega.{arith}
use lib.Dec.{eqb, ltb, leb}
use lib.ListN.{length, get_or, take, drop, length-append}
use lib.Seq.{take-suc, append_snoc, drop-append_seam, take-add}
use borrow.Author.Tests.{leb-true, ltb-true, eqb-true, not-false}
use Rattle.text.specs.Digits.{leading}
use Rattle.text.proofs.ReadLaws.{leading-all, leading-none}
use Rattle.p6_whitespace.specs.Whitespace.{Every, is_white, White, hash, ends_line, in_line, Comment, WhiteOrComment, Whitespace}
use Rattle.p6_whitespace.specs.Blanks.{comment_length, blank_length, blanks_length, whitespace_length}
use Rattle.p6_whitespace.proofs.BlankLaws.{comment-ended, blank-in, whitespace-on, whitespace-off}

-- ---- bytes that pass a test

pub every-leads : (p : ℕ → Bool) {l : List ℕ} → Every p l → leading p l ≡ length l
unfolding leading
every-leads p Every.none = refl
every-leads p (Every.next e every) = rw (e, every-leads p every)

pub leads-every : (p : ℕ → Bool) (l : List ℕ) (n : ℕ) → n ≤ leading p l → Every p (take n l)
unfolding leading
leads-every p l zero k = Every.none
leads-every p [] (suc n) k = absurd (omega arith)
leads-every p (b ∷ l) (suc n) k = split (p b) refl k (λ m. leads-every p l n m)
  where
    split : (t : Bool) → p b ≡ t → suc n ≤ cond t (suc (leading p l)) 0 → (n ≤ leading p l → Every p (take n l)) → Every p (b ∷ take n l)
    split true e k next = Every.next e (next (omega arith))
    split false e k next = absurd (omega arith)

-- the first byte that does not pass
leading-stops : (p : ℕ → Bool) (l : List ℕ) → leading p l < length l → p (get_or l (leading p l) 0) ≡ false
unfolding leading
leading-stops p [] k = absurd (omega arith)
leading-stops p (b ∷ l) k = split (p b) refl k (λ m. leading-stops p l m)
  where
    split : (t : Bool) → p b ≡ t → cond t (suc (leading p l)) 0 < suc (length l) → (leading p l < length l → p (get_or l (leading p l) 0) ≡ false)
        → p (get_or (b ∷ l) (cond t (suc (leading p l)) 0) 0) ≡ false
    split true e k next = next (omega arith)
    split false e k next = e

-- ---- blanks

comment-found : {bytes : List ℕ} → Comment bytes → (l : List ℕ) → blank_length (bytes ++ l) ≡ length bytes
unfolding blank_length is_white ends_line leading
comment-found {bytes} c l = rw (c.spelled, append_snoc line c.end l) (comment-ended (line ++ (c.end ∷ l)) (length line) leads room ∙ sym (length-append line (c.end ∷ [])))
  where
    line : List ℕ
    line = hash ∷ c.text

    leads : leading in_line (line ++ (c.end ∷ l)) ≡ length line
    leads =
        let a = leading-all in_line line (c.end ∷ l) (every-leads in_line (Every.next {b = hash} refl c.inside)) in
        let e = leading-none in_line c.end l (ap not c.ends) in
        omega arith

    room : length line < length (line ++ (c.end ∷ l))
    room = omega (arith, length-append line (c.end ∷ l))

blank-found : {bytes : List ℕ} → WhiteOrComment bytes → (l : List ℕ) → blank_length (bytes ++ l) ≡ length bytes
unfolding blank_length
blank-found (WhiteOrComment.white (White.byte e)) l = rw e
blank-found (WhiteOrComment.comment c) l = comment-found c l

blank-some : {bytes : List ℕ} → WhiteOrComment bytes → 1 ≤ length bytes
blank-some (WhiteOrComment.white (White.byte e)) = omega arith
blank-some (WhiteOrComment.comment c) = rw c.spelled (omega arith)

-- a comment whose end is found
comment-spelled : (l : List ℕ) → let n = leading in_line (hash ∷ l) in n < length (hash ∷ l) → Comment (take (n + 1) (hash ∷ l))
unfolding leading ends_line
comment-spelled l k =
    let n = leading in_line l in
    record {
      text = take n l;
      end = get_or l n 0;
      spelled = rw (add-one (suc n)) (ap (λ (r : List ℕ). hash ∷ r) (take-suc l n 0 (omega arith)));
      inside = leads-every in_line l n (omega arith);
      ends = not-false _ (leading-stops in_line l (omega arith));
    }

blank-spelled : (l : List ℕ) → 1 ≤ blank_length l → WhiteOrComment (take (blank_length l) l)
unfolding blank_length comment_length
blank-spelled [] k = absurd (omega (arith, blank-in []))
blank-spelled (b ∷ l) k = split (is_white b) (eqb b hash) (ltb n (length (b ∷ l))) refl refl refl k
  where
    n : ℕ
    n = leading in_line (b ∷ l)

    split : (t u v : Bool) → is_white b ≡ t → eqb b hash ≡ u → ltb n (length (b ∷ l)) ≡ v → 1 ≤ cond t 1 (cond u (cond v (n + 1) 0) 0)
        → WhiteOrComment (take (cond t 1 (cond u (cond v (n + 1) 0) 0)) (b ∷ l))
    split true u v a e f k = WhiteOrComment.white (White.byte a)
    split false true true a e f k =
        let is = eqb-true b hash e in
        rw is (WhiteOrComment.comment (comment-spelled l (rw is at (ltb-true n (length (b ∷ l)) f))))
    split false true false a e f k = absurd (omega arith)
    split false false v a e f k = absurd (omega arith)

-- ---- whitespace

pub whitespace-found : {bytes : List ℕ} → Whitespace WhiteOrComment bytes → (l : List ℕ) → blank_length l ≡ 0 → whitespace_length (bytes ++ l) ≡ length bytes
whitespace-found {bytes} (Whitespace.one b) l z =
    whitespace-on (bytes ++ l) (length bytes) (blank-found b l) (blank-some b)
    ∙ rw (drop-append_seam bytes l, whitespace-off l z) (omega arith)
whitespace-found (Whitespace.more {bytes} {rest} b w) l z =
    rw (append_assoc bytes rest l, whitespace-on (bytes ++ (rest ++ l)) (length bytes) (blank-found b (rest ++ l)) (blank-some b), drop-append_seam bytes (rest ++ l))
    (rw (whitespace-found w l z) (sym (length-append bytes rest)))

pub whitespace-some : {bytes : List ℕ} → Whitespace WhiteOrComment bytes → 1 ≤ length bytes
whitespace-some (Whitespace.one b) = blank-some b
whitespace-some (Whitespace.more {bytes} {rest} b w) = omega (arith, blank-some b, length-append bytes rest)

blanks-spelled : (k : ℕ) (l : List ℕ) → 1 ≤ blanks_length k l → Whitespace WhiteOrComment (take (blanks_length k l) l)
unfolding blanks_length
blanks-spelled zero l s = absurd (omega arith)
blanks-spelled (suc k) l s = split (leb 1 n) refl (blanks_length k (drop n l)) (λ m. blanks-spelled k (drop n l) m) s
  where
    n : ℕ
    n = blank_length l

    split : (t : Bool) → leb 1 n ≡ t → (m : ℕ) → (1 ≤ m → Whitespace WhiteOrComment (take m (drop n l))) → 1 ≤ cond t (n + m) 0
        → Whitespace WhiteOrComment (take (cond t (n + m) 0) l)
    split true e zero next s = rw (add-zero n) (Whitespace.one (blank-spelled l (leb-true 1 n e)))
    split true e (suc m) next s = rw (take-add n (suc m) l) (Whitespace.more (blank-spelled l (leb-true 1 n e)) (next (omega arith)))
    split false e m next s = absurd (omega arith)

pub whitespace-spelled : (l : List ℕ) → 1 ≤ whitespace_length l → Whitespace WhiteOrComment (take (whitespace_length l) l)
unfolding whitespace_length
whitespace-spelled l s = blanks-spelled (length l) l s
