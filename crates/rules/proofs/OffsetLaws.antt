-- How large offsets can be: a level adds one to twice the coarser bound, a frame adds its pairs.
use mathlib.Core.Path.{◌≡◌, refl, sym, ap, ◌∙◌}
use mathlib.Core.Bool.{Bool, true, false, cond}
use mathlib.Core.Logic.{⊎_elim}
use mathlib.Core.List.{List, [], ◌∷◌, ◌++◌, map}
use Prim.Native.Nat.{ℕ, zero, suc, ◌+◌, ◌*◌, ◌-◌, ◌/◌, ◌^◌, ◌≤◌, ◌<◌, min, max}
use native.Mathlib.Nat.{suc-mul, le_refl}
use native.Mathlib.Omega.{arith}
use lib.Dec.{leb, ltb}
use lib.IntN.{ℤ, pos, negsuc, nat_abs, sub_ℕ, ◌+ℤ◌, neg_ℤ}
use lib.ListN.{length, get_or, length-append, get_or-append}
use lib.Seq.{get_or-append-add}
use lib.Pow.{pow_pos}
use borrow.Author.Tests.{leb-true, leb-false, lt-ltb, le-ltb}
use Rattle.rules.specs.Frames.{Frame}
use Rattle.rules.specs.Greys.{halved}
use Rattle.rules.specs.Planes.{distance}
use Rattle.rules.specs.declared.Offset.{Offset}
use Rattle.rules.specs.Levels.{still, added, Near, Every, ExclusionRule, ward_order, arranged, first_least, chosen, level, count_at, compared_at, pair}
use Rattle.rules.specs.Series.{sum_from, opposite, frame_offset, offset_list}
use Rattle.rules.proofs.SumLaws.{order}

abs-sub : (a b : ℕ) → nat_abs (sub_ℕ a b) ≤ max a b
abs-sub a b =
    ⊎_elim
    (λ (l : a < b). rw (lt-ltb a b l) (omega arith))
    (λ (l : b ≤ a). rw (le-ltb a b l) (omega arith))
    (order a b)

pub abs-add : (a b : ℤ) → nat_abs (a +ℤ b) ≤ nat_abs a + nat_abs b
abs-add (pos a) (pos b) = le_refl (a + b)
abs-add (pos a) (negsuc b) = let l = abs-sub a (suc b) in omega arith
abs-add (negsuc a) (pos b) = let l = abs-sub b (suc a) in omega arith
abs-add (negsuc a) (negsuc b) = omega arith

pub abs_neg : (a : ℤ) → nat_abs (neg_ℤ a) ≡ nat_abs a
abs_neg (pos zero) = refl
abs_neg (pos (suc n)) = refl
abs_neg (negsuc n) = refl

pub near_add : (m n : ℕ) (a b : Offset) → Near m a → Near n b → Near (m + n) (added a b)
near_add m n a b p q = record {
  dx = let k = abs-add a.dx b.dx in let c = p.dx in let d = q.dx in omega arith;
  dy = let k = abs-add a.dy b.dy in let c = p.dy in let d = q.dy in omega arith;
}

near-opposite : (n : ℕ) (a : Offset) → Near n a → Near n (opposite a)
near-opposite n a p = record { dx = rw (abs_neg a.dx) p.dx; dy = rw (abs_neg a.dy) p.dy }

pub near-more : (m n : ℕ) (a : Offset) → m ≤ n → Near m a → Near n a
near-more m n a l p = record { dx = let c = p.dx in omega arith; dy = let c = p.dy in omega arith }

first-every : (P : Offset → Type 0) (count : Offset → ℕ) (best : Offset) (ms : List Offset) → P best → Every P ms → P (first_least count best ms)
unfolding first_least
first-every P count best [] p all = p
first-every P count best (m ∷ ms) p all = first-every P count (cond (ltb (count m) (count best)) m best) ms (either (ltb (count m) (count best))) all.1
  where
    either : (t : Bool) → P (cond t m best)
    either true = all.0
    either false = p

chosen-every : (P : Offset → Type 0) (count : Offset → ℕ) (ms : List Offset) → P still → Every P ms → P (chosen count ms)
unfolding chosen
chosen-every P count [] p all = p
chosen-every P count (m ∷ ms) p all = first-every P count m ms all.0 all.1

near-candidates : (n : ℕ) (centre : Offset) (ms : List Offset) → Near n centre → Every (Near 1) ms → Every (Near (n + 1)) (map (added centre) ms)
near-candidates n centre [] c all = tt
near-candidates n centre (m ∷ ms) c all = (near_add n 1 centre m c all.0, near-candidates n centre ms c all.1)

pub near-still : (n : ℕ) → Near n still
near-still n = record { dx = omega arith; dy = omega arith }

near-level : (order : List Offset) → Every (Near 1) order → (count out_of : Offset → ℕ) (n : ℕ) (centre : Offset) (counts compared : List ℕ)
    → Near n centre → Near (n + 1) (level order count out_of centre counts compared).offset
unfolding level
near-level order steps count out_of n centre counts compared c =
    chosen-every (Near (n + 1)) count (map (added centre) order) (near-still (n + 1)) (near-candidates n centre order c steps)

-- "its function reaches 2^(s+1)−1"
pub near-pair : (order : List Offset) → Every (Near 1) order → (exclusion : ExclusionRule) (percentile s w h : ℕ) (a b : Frame)
    → Near (2 ^ suc s - 1) (pair order exclusion percentile s w h a b).offset
unfolding pair
near-pair order steps exclusion percentile zero w h a b = near-level order steps (count_at exclusion percentile w h a b) (compared_at exclusion percentile w h a b) 0 still [] [] (near-still 0)
near-pair order steps exclusion percentile (suc s) w h a b =
    let coarse = pair order exclusion percentile s (w / 2) (h / 2) (halved a) (halved b) in
    let n : ℕ = 2 ^ suc s - 1 in
    let c : Near n coarse.offset = near-pair order steps exclusion percentile s (w / 2) (h / 2) (halved a) (halved b) in
    let e : n + n + 1 ≡ 2 ^ suc (suc s) - 1 = omega (arith, pow_pos s) in
    rw e at (near-level order steps (count_at exclusion percentile w h a b) (compared_at exclusion percentile w h a b) (n + n) (added coarse.offset coarse.offset)
    coarse.counts coarse.compared (near_add n n coarse.offset coarse.offset c c))

near-ward : Every (Near 1) ward_order
near-ward = omega arith

-- any order of the nine takes steps of at most 1
pub near-arranged : (places : List ℕ) → Every (Near 1) (arranged places)
near-arranged [] = tt
near-arranged (p ∷ ps) = (every-at (Near 1) ward_order (near-still 1) near-ward p, near-arranged ps)
  where
    every-at : (P : Offset → Type 0) (ms : List Offset) → P still → Every P ms → (k : ℕ) → P (get_or ms k still)
    every-at P [] p all k = p
    every-at P (m ∷ ms) p all zero = all.0
    every-at P (m ∷ ms) p all (suc k) = every-at P ms p all.1 k

near-sum : (b : ℕ) (d : ℕ → Offset) (a n : ℕ) → ((k : ℕ) → k < a + n → Near b (d k)) → Near (n * b) (sum_from d a n)
unfolding sum_from
near-sum b d a zero near = near-still (0 * b)
near-sum b d a (suc n) near =
    let e : n * b + b ≡ suc n * b = sym (suc-mul n b) in
    rw e at (near_add (n * b) b (sum_from d a n) (d (a + n)) (near-sum b d a n (λ k l. near k (omega arith))) (near (a + n) (omega arith)))

pub near-frame : (b : ℕ) (d : ℕ → Offset) (n r k : ℕ) → r ≤ n → k ≤ n → ((j : ℕ) → j < n → Near b (d j)) → Near (distance k r * b) (frame_offset d r k)
unfolding frame_offset distance
near-frame b d n r k l m near = split (leb r k) refl
  where
    split : (t : Bool) → leb r k ≡ t → Near ((max k r - min k r) * b) (cond t (sum_from d r (k - r)) (opposite (sum_from d k (r - k))))
    split true t =
        let p = leb-true r k t in
        let e : k - r ≡ max k r - min k r = omega arith in
        rw (← e) (near-sum b d r (k - r) (λ j i. near j (omega arith)))
    split false t =
        let p = leb-false r k t in
        let e : r - k ≡ max k r - min k r = omega arith in
        rw (← e) (near-opposite ((r - k) * b) (sum_from d k (r - k)) (near-sum b d k (r - k) (λ j i. near j (omega arith))))

-- an offset list holds frame k's offset at places 2k and 2k + 1
pub length-offsets : (n : ℕ) (f : ℕ → Offset) → length (offset_list n f) ≡ 2 * n
unfolding offset_list
length-offsets zero f = refl
length-offsets (suc n) f = length-append (offset_list n f) ((f n).dx ∷ (f n).dy ∷ []) ∙ (let a = length-offsets n f in omega arith)

pub offset_at : (n : ℕ) (f : ℕ → Offset) (k : ℕ) → k < n
    → (get_or (offset_list n f) (2 * k) (pos 0) ≡ (f k).dx) × (get_or (offset_list n f) (2 * k + 1) (pos 0) ≡ (f k).dy)
unfolding offset_list
offset_at zero f k l = absurd (omega arith)
offset_at (suc n) f k l = ⊎_elim (λ (m : k < n). old m (offset_at n f k m)) new (order k n)
  where
    end : List ℤ
    end = (f n).dx ∷ (f n).dy ∷ []

    size : length (offset_list n f) ≡ 2 * n
    size = length-offsets n f

    old : k < n → (get_or (offset_list n f) (2 * k) (pos 0) ≡ (f k).dx) × (get_or (offset_list n f) (2 * k + 1) (pos 0) ≡ (f k).dy)
        → (get_or (offset_list n f ++ end) (2 * k) (pos 0) ≡ (f k).dx) × (get_or (offset_list n f ++ end) (2 * k + 1) (pos 0) ≡ (f k).dy)
    old m e = (
      get_or-append (offset_list n f) end (pos 0) (2 * k) (let a = size in omega arith) ∙ e.0,
      get_or-append (offset_list n f) end (pos 0) (2 * k + 1) (let a = size in omega arith) ∙ e.1,
    )

    new : n ≤ k → (get_or (offset_list n f ++ end) (2 * k) (pos 0) ≡ (f k).dx) × (get_or (offset_list n f ++ end) (2 * k + 1) (pos 0) ≡ (f k).dy)
    new m =
        let d : k ≡ n = omega arith in
        let p : 2 * k ≡ length (offset_list n f) + 0 = let a = size in omega arith in
        let q : 2 * k + 1 ≡ length (offset_list n f) + 1 = let a = size in omega arith in (
          ap (λ (i : ℕ). get_or (offset_list n f ++ end) i (pos 0)) p ∙ get_or-append-add (offset_list n f) end 0 (pos 0) ∙ ap (λ (i : ℕ). (f i).dx) (sym d),
          ap (λ (i : ℕ). get_or (offset_list n f ++ end) i (pos 0)) q ∙ get_or-append-add (offset_list n f) end 1 (pos 0) ∙ ap (λ (i : ℕ). (f i).dy) (sym d),
        )
