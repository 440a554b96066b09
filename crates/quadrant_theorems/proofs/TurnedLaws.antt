-- "turned" exactly when two of the four offsets written differ by more than 1 on an axis.
use Rattle.rules.specs.Answers.{answer_for}
use Rattle.std.specs.Prelude.{Result, Ok}
use mathlib.Core.Path.{◌≡◌, refl, sym, ap, ap₂, ◌∙◌}
use mathlib.Core.Bool.{Bool, true, false, ◌||◌, true≢false, false≢true}
use mathlib.Core.Logic.{◌⊎◌, inl, inr, ⊎_elim}
use mathlib.Core.List.{List, [], ◌∷◌, map}
use Prim.Native.Nat.{ℕ, ◌<◌}
use native.Mathlib.Omega.{arith}
use lib.Dec.{ltb}
use lib.IntN.{ℤ, nat_abs, neg_ℤ, ◌-ℤ◌, ◌+ℤ◌, +ℤ_invr, +ℤ_comm, neg_ℤ-+ℤ, neg_ℤ-neg_ℤ}
use borrow.Author.Tests.{lt-ltb, ltb-true}
use Rattle.rules.specs.declared.Offset.{Offset}
use Rattle.rules.proofs.OffsetLaws.{abs_neg}
use Rattle.rules.proofs.RefusalLaws.{or_no}
use Rattle.crop.specs.declared.Quadrant.{Quadrant}
use Rattle.crop.specs.Quadrants.{all_quadrants}
use Rattle.rotation.specs.Turns.{apart, differing, differing_from, turned}
use Rattle.quadrant.specs.QuadrantPairs.{quadrant_offset}
use Rattle.four_quadrants.specs.FourOffsets.{four_offsets}
use Rattle.quadrant_theorems.specs.CroppedPairs.{offset_of}
use Rattle.quadrant_theorems.specs.ExactTurns.{TwoDiffer, SaysTurned, TurnedExactly}
use Rattle.quadrant_theorems.proofs.CallLaws.{offset-written}

-- A number is not apart from itself, and two are apart either way round.
apart-self : (i : ℤ) → apart i i ≡ false
unfolding apart
apart-self i = ap (λ (z : ℤ). ltb 1 (nat_abs z)) (+ℤ_invr i)

apart-sym : (i j : ℤ) → apart i j ≡ apart j i
unfolding apart
apart-sym i j =
    let e : neg_ℤ (i -ℤ j) ≡ j -ℤ i = neg_ℤ-+ℤ i (neg_ℤ j) ∙ ap (λ (z : ℤ). neg_ℤ i +ℤ z) (neg_ℤ-neg_ℤ j) ∙ +ℤ_comm (neg_ℤ i) j in
    ap (ltb 1) (sym (abs_neg (i -ℤ j)) ∙ ap nat_abs e)

differing-self : (m : Offset) → differing m m ≡ false
unfolding differing
differing-self m = ap₂ ◌||◌ (apart-self m.dx) (apart-self m.dy)

differing-sym : (m n : Offset) → differing m n ≡ differing n m
unfolding differing
differing-sym m n = ap₂ ◌||◌ (apart-sym m.dx n.dx) (apart-sym m.dy n.dy)

or_yes : (a b : Bool) → a || b ≡ true → (a ≡ true) ⊎ (b ≡ true)
or_yes true b e = inl refl
or_yes false b e = inr e

-- The test of two offsets, by what it says.
abbrev Differ : Offset → Offset → Type 0
Differ m n = (1 < nat_abs (m.dx -ℤ n.dx)) ⊎ (1 < nat_abs (m.dy -ℤ n.dy))

differ : (m n : Offset) → differing m n ≡ true → Differ m n
unfolding differing apart
differ m n e =
    ⊎_elim (λ (d : apart m.dx n.dx ≡ true). inl (ltb-true 1 (nat_abs (m.dx -ℤ n.dx)) d)) (λ (d : apart m.dy n.dy ≡ true). inr (ltb-true 1 (nat_abs (m.dy -ℤ n.dy)) d))
    (or_yes (apart m.dx n.dx) (apart m.dy n.dy) e)

alike : (m n : Offset) → differing m n ≡ false → Differ m n → ⊥
unfolding differing apart
alike m n e d =
    let p = or_no (apart m.dx n.dx) (apart m.dy n.dy) e in
    ⊎_elim (λ (l : 1 < nat_abs (m.dx -ℤ n.dx)). true≢false (sym (lt-ltb 1 (nat_abs (m.dx -ℤ n.dx)) l) ∙ p.0))
    (λ (l : 1 < nat_abs (m.dy -ℤ n.dy)). true≢false (sym (lt-ltb 1 (nat_abs (m.dy -ℤ n.dy)) l) ∙ p.1)) d

-- Four offsets, one a quadrant.
module _ (f : Quadrant → Offset) where
  abbrev four : List Offset
  four = map f all_quadrants

  -- the six pairs, when no two differ
  record NoneDiffer : Type 0 where
    upper : differing (f Quadrant.UpperLeft) (f Quadrant.UpperRight) ≡ false
    left : differing (f Quadrant.UpperLeft) (f Quadrant.LowerLeft) ≡ false
    falling : differing (f Quadrant.UpperLeft) (f Quadrant.LowerRight) ≡ false
    rising : differing (f Quadrant.UpperRight) (f Quadrant.LowerLeft) ≡ false
    right : differing (f Quadrant.UpperRight) (f Quadrant.LowerRight) ≡ false
    lower : differing (f Quadrant.LowerLeft) (f Quadrant.LowerRight) ≡ false

  none : turned four ≡ false → NoneDiffer
  unfolding turned differing_from
  none e =
      let ab = differing (f Quadrant.UpperLeft) (f Quadrant.UpperRight) in
      let ac = differing (f Quadrant.UpperLeft) (f Quadrant.LowerLeft) in
      let ad = differing (f Quadrant.UpperLeft) (f Quadrant.LowerRight) in
      let bc = differing (f Quadrant.UpperRight) (f Quadrant.LowerLeft) in
      let bd = differing (f Quadrant.UpperRight) (f Quadrant.LowerRight) in
      let cd = differing (f Quadrant.LowerLeft) (f Quadrant.LowerRight) in
      let p = or_no (ab || (ac || (ad || false))) ((bc || (bd || false)) || ((cd || false) || (false || false))) e in
      let a = or_no ab (ac || (ad || false)) p.0 in
      let a2 = or_no ac (ad || false) a.1 in
      let q = or_no (bc || (bd || false)) ((cd || false) || (false || false)) p.1 in
      let b = or_no bc (bd || false) q.0 in
      let c = or_no (cd || false) (false || false) q.1 in
      record {
        upper = a.0;
        left = a2.0;
        falling = (or_no ad false a2.1).0;
        rising = b.0;
        right = (or_no bd false b.1).0;
        lower = (or_no cd false c.0).0;
      }

  same : NoneDiffer → (p q : Quadrant) → differing (f p) (f q) ≡ false
  same n Quadrant.UpperLeft Quadrant.UpperLeft = differing-self (f Quadrant.UpperLeft)
  same n Quadrant.UpperLeft Quadrant.UpperRight = n.upper
  same n Quadrant.UpperLeft Quadrant.LowerLeft = n.left
  same n Quadrant.UpperLeft Quadrant.LowerRight = n.falling
  same n Quadrant.UpperRight Quadrant.UpperLeft = differing-sym (f Quadrant.UpperRight) (f Quadrant.UpperLeft) ∙ n.upper
  same n Quadrant.UpperRight Quadrant.UpperRight = differing-self (f Quadrant.UpperRight)
  same n Quadrant.UpperRight Quadrant.LowerLeft = n.rising
  same n Quadrant.UpperRight Quadrant.LowerRight = n.right
  same n Quadrant.LowerLeft Quadrant.UpperLeft = differing-sym (f Quadrant.LowerLeft) (f Quadrant.UpperLeft) ∙ n.left
  same n Quadrant.LowerLeft Quadrant.UpperRight = differing-sym (f Quadrant.LowerLeft) (f Quadrant.UpperRight) ∙ n.rising
  same n Quadrant.LowerLeft Quadrant.LowerLeft = differing-self (f Quadrant.LowerLeft)
  same n Quadrant.LowerLeft Quadrant.LowerRight = n.lower
  same n Quadrant.LowerRight Quadrant.UpperLeft = differing-sym (f Quadrant.LowerRight) (f Quadrant.UpperLeft) ∙ n.falling
  same n Quadrant.LowerRight Quadrant.UpperRight = differing-sym (f Quadrant.LowerRight) (f Quadrant.UpperRight) ∙ n.right
  same n Quadrant.LowerRight Quadrant.LowerLeft = differing-sym (f Quadrant.LowerRight) (f Quadrant.LowerLeft) ∙ n.lower
  same n Quadrant.LowerRight Quadrant.LowerRight = differing-self (f Quadrant.LowerRight)

  -- two that differ
  record SomeDiffer : Type 0 where
    one : Quadrant
    other : Quadrant
    yes : differing (f one) (f other) ≡ true

  either : (p q : Quadrant) (t : Bool) → differing (f p) (f q) ≡ t → (differing (f p) (f q) ≡ false → SomeDiffer) → SomeDiffer
  either p q true e rest = record { one = p; other = q; yes = e }
  either p q false e rest = rest e

  some : turned four ≡ true → SomeDiffer
  unfolding turned differing_from
  some e =
      first Quadrant.UpperLeft Quadrant.UpperRight (λ upper.
      first Quadrant.UpperLeft Quadrant.LowerLeft (λ left.
      first Quadrant.UpperLeft Quadrant.LowerRight (λ falling.
      first Quadrant.UpperRight Quadrant.LowerLeft (λ rising.
      first Quadrant.UpperRight Quadrant.LowerRight (λ right.
      first Quadrant.LowerLeft Quadrant.LowerRight (λ lower.
      absurd (false≢true (rw (upper, left, falling, rising, right, lower) at e))))))))
    where
      first : (p q : Quadrant) → (differing (f p) (f q) ≡ false → SomeDiffer) → SomeDiffer
      first p q = either p q (differing (f p) (f q)) refl

-- What is said of four offsets, by the test t.
says : (offsets : List ℤ) (r : Result Bool ℕ) (t : Bool) → turned (four (λ q. offset_of q offsets)) ≡ t → r ≡ answer_for 0 t → SaysTurned offsets r
says offsets r true e a = record {
  when = λ two. a;
  only = λ z. found;
  else = λ no. absurd (no found);
}
  where
    found : TwoDiffer offsets
    found = let d = some (λ q. offset_of q offsets) e in record { one = d.one; other = d.other; differ = differ (offset_of d.one offsets) (offset_of d.other offsets) d.yes }
says offsets r false e a = record {
  when = λ two. absurd (not-two two);
  only = λ z. let n : ◌≡◌ {A = Result Bool ℕ} (Ok true) (Ok false) = sym z ∙ a in absurd (let y : ◌≡◌ {A = ℕ} 0 1 = cc in omega arith);
  else = λ no. a;
}
  where
    not-two : TwoDiffer offsets → ⊥
    not-two two =
        alike (offset_of two.one offsets) (offset_of two.other offsets)
        (same (λ q. offset_of q offsets) (none (λ q. offset_of q offsets) e) two.one two.other) two.differ

pub turned-exactly : TurnedExactly
unfolding four_offsets
turned-exactly order S first second offsets offsets' grey grey' words words' r accepted call =
    says offsets' r (turned (four (λ q. offset_of q offsets'))) refl
    (call.answered ∙ ap₂ answer_for accepted (ap turned (λ i. sym (read Quadrant.UpperLeft) i ∷ sym (read Quadrant.UpperRight) i ∷ sym (read Quadrant.LowerLeft) i ∷ sym (read Quadrant.LowerRight) i ∷ [])))
  where
    read : (q : Quadrant) → offset_of q offsets' ≡ quadrant_offset order S first second q
    read = offset-written order S first second offsets offsets' grey grey' words words' r accepted call
