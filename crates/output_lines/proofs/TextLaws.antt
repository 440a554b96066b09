-- Laws of the printed lines: how long they are at most, and how the counts and the levels follow one another.
use mathlib.Core.Path.{◌≡◌, refl, sym, ap, ◌∙◌}
use mathlib.Core.List.{List, [], ◌∷◌, ◌++◌, append_assoc, append-nil}
use Prim.Native.Nat.{ℕ, zero, suc, ◌+◌, ◌*◌, ◌-◌, ◌≤◌, ◌<◌}
use native.Mathlib.Numerals.{add-one}
use native.Mathlib.Omega.{arith}
use lib.IntN.{ℤ, pos, negsuc}
use lib.ListN.{length, get_or, take, drop, length-append, length-take, length-drop, take-append-drop}
use lib.Seq.{take-suc, take-append-le, drop-append-le}
use borrow.Author.Rules.{part_to_end}
use Rattle.text.specs.Digits.{digits}
use Rattle.text.proofs.DigitLaws.{digits-one, digits-at-most-ten}
use Rattle.output_lines.specs.Lines.{signed, offset_text, counts_text, level_text, levels_text}

pub signed-short : (z : ℤ) → length (signed z) ≤ 11
unfolding signed
signed-short (pos n) = let a = digits-at-most-ten n in omega arith
signed-short (negsuc n) = let a = digits-at-most-ten (suc n) in omega arith

-- an offset line has 31 bytes at most
pub offset-short : (dx dy : ℤ) → length (offset_text dx dy) ≤ 31
offset-short dx dy = simp length-append (omega (arith, signed-short dx, signed-short dy))

counts-short : (l : List ℕ) → length (counts_text l) ≤ 11 * length l
unfolding counts_text
counts-short [] = omega arith
counts-short (c ∷ l) =
    let a = length-append (digits c) (counts_text l) in
    let b = digits-at-most-ten c in
    let d = counts-short l in
    omega arith

-- the bytes of a level's line, 102 at most
pub level-length : (halvings : ℕ) (counts : List ℕ) → length (level_text halvings counts) ≡ length (digits halvings) + length (counts_text (take 9 counts)) + 2
level-length halvings counts = simp length-append (omega arith)

level-short : (halvings : ℕ) (counts : List ℕ) → halvings < 10 → length (level_text halvings counts) ≤ 102
level-short halvings counts l =
    let a = ap length (digits-one halvings l) in
    let b = counts-short (take 9 counts) in
    let c = length-take 9 counts in
    let d = level-length halvings counts in
    omega arith

pub levels-short : (s : ℕ) (counts : List ℕ) → s < 10 → length (levels_text s counts) ≤ 102 * (s + 1)
unfolding levels_text
levels-short zero counts l = level-short zero counts l
levels-short (suc s) counts l =
    let a = level-short (suc s) counts l in
    let b = levels-short s (drop 9 counts) (omega arith) in
    let c = length-append (level_text (suc s) counts) (levels_text s (drop 9 counts)) in
    omega arith

-- one more count
counts-append : (a b : List ℕ) → counts_text (a ++ b) ≡ counts_text a ++ counts_text b
unfolding counts_text
counts-append [] b = refl
counts-append (c ∷ a) b = ap (λ (t : List ℕ). (32 ∷ []) ++ digits c ++ t) (counts-append a b) ∙ sym (append_assoc ((32 ∷ []) ++ digits c) (counts_text a) (counts_text b))

pub counts-more : (l : List ℕ) (k : ℕ) → k < length l
    → counts_text (take (k + 1) l) ≡ counts_text (take k l) ++ (32 ∷ []) ++ digits (get_or l k 0)
unfolding counts_text
counts-more l k m =
    rw (add-one k, take-suc l k 0 m)
    (counts-append (take k l) (get_or l k 0 ∷ [])
    ∙ ap (λ (t : List ℕ). counts_text (take k l) ++ t) (append-nil ((32 ∷ []) ++ digits (get_or l k 0)))
    ∙ sym (append_assoc (counts_text (take k l)) (32 ∷ []) (digits (get_or l k 0))))

-- the next count has room where all have
pub counts-room : (l : List ℕ) (k : ℕ) → k < length l
    → length (counts_text (take k l)) + (1 + length (digits (get_or l k 0))) ≤ length (counts_text l)
counts-room l k m =
    let a = counts-append (take (k + 1) l) (drop (k + 1) l) in
    let b = take-append-drop (k + 1) l in
    let e : counts_text l ≡ counts_text (take k l) ++ (32 ∷ []) ++ digits (get_or l k 0) ++ counts_text (drop (k + 1) l) =
    ap counts_text (sym b) ∙ a ∙ ap (λ (t : List ℕ). t ++ counts_text (drop (k + 1) l)) (counts-more l k m) in
    rw e (simp length-append (omega arith))

-- the coarsest level's line, and those after it
pub levels-one : (s : ℕ) (counts : List ℕ) → s ≡ 0 → levels_text s counts ≡ level_text s counts
unfolding levels_text
levels-one s counts e = rw e refl

pub levels-more : (s : ℕ) (counts : List ℕ) → (s ≡ 0 → ⊥) → levels_text s counts ≡ level_text s counts ++ levels_text (s - 1) (drop 9 counts)
unfolding levels_text
levels-more zero counts n = absurd (n refl)
levels-more (suc s) counts n = let e : suc s - 1 ≡ s = omega arith in rw e

-- the first line has room where all have
pub levels-room : (s : ℕ) (counts : List ℕ) → length (level_text s counts) ≤ length (levels_text s counts)
unfolding levels_text
levels-room zero counts = omega arith
levels-room (suc s) counts = let a = length-append (level_text (suc s) counts) (levels_text s (drop 9 counts)) in omega arith

-- the lines after the first have room where the counts are lent from the tenth on
pub rest-room : (at s : ℕ) (counts : List ℕ) (room : ℕ) → 9 * (s + 1) ≤ length (drop 9 counts) → at + length (levels_text s (drop 9 counts)) ≤ room
    → (9 * (s + 1) ≤ length (take (length counts - 9) (drop 9 counts))) × (at + length (levels_text s (take (length counts - 9) (drop 9 counts))) ≤ room)
rest-room at s counts room a b = rw (part_to_end counts 9) (a, b)

-- The lines look at the 9·(s + 1) counts alone, whatever stands after them.
pub levels-enough : (s : ℕ) (counts rest : List ℕ) → length counts ≡ 9 * (s + 1) → levels_text s (counts ++ rest) ≡ levels_text s counts
unfolding levels_text
levels-enough zero counts rest e = let l : 9 ≤ length counts = omega arith in rw take-append-le
levels-enough (suc s) counts rest e =
    let l : 9 ≤ length counts = omega arith in
    let d = length-drop 9 counts in
    rw (take-append-le, drop-append-le, levels-enough s (drop 9 counts) rest (omega arith))
