-- Laws of the lists that hold frames, and the records that the writing loops keep.
use mathlib.Core.Path.{◌≡◌, refl, sym, ap, ◌∙◌}
use mathlib.Core.Logic.{⊎_elim}
use mathlib.Core.List.{List, [], ◌∷◌, ◌++◌}
use Prim.Native.Nat.{ℕ, zero, suc, ◌+◌, ◌*◌, ◌-◌, ◌/◌, ◌%◌, ◌≤◌, ◌<◌}
use native.Mathlib.Nat.{zero-add, zero-mul, suc-mul, mul_comm, mul-le-mul_right, mul-zero, mul-suc, mod-lt, div-add-mod', div-lt_iff_lt-mul}
use native.Mathlib.Numerals.{add-one}
use native.Mathlib.Omega.{arith}
use lib.ListN.{length, get_or, drop, set, length-append, length-drop, length-set, get_or-append}
use lib.Seq.{get_or-append-add, get_or-set_same, get_or-set_other, get_or-drop, ext_get_or}
use Rattle.rules.specs.Frames.{Frame, row, rows, written_over}
use Rattle.rules.specs.Buffers.{RowAt, FrameAt}
use Rattle.rules.proofs.SumLaws.{order}

pub length-row : (n : ℕ) (f : ℕ → ℕ) → length (row n f) ≡ n
unfolding row
length-row zero f = refl
length-row (suc n) f = length-append (row n f) (f n ∷ []) ∙ (let a = length-row n f in omega arith)

pub get_d-row : (n : ℕ) (f : ℕ → ℕ) (i : ℕ) → i < n → get_or (row n f) i 0 ≡ f i
unfolding row
get_d-row zero f i l = absurd (omega arith)
get_d-row (suc n) f i l = ⊎_elim (λ (k : i < n). old k (get_d-row n f i k)) new (order i n)
  where
    old : i < n → get_or (row n f) i 0 ≡ f i → get_or (row n f ++ (f n ∷ [])) i 0 ≡ f i
    old k e = get_or-append (row n f) (f n ∷ []) 0 i (let a = length-row n f in omega arith) ∙ e

    new : n ≤ i → get_or (row n f ++ (f n ∷ [])) i 0 ≡ f i
    new k =
        let e : i ≡ length (row n f) + 0 = let a = length-row n f in omega arith in
        let d : i ≡ n = omega arith in
        ap (λ (j : ℕ). get_or (row n f ++ (f n ∷ [])) j 0) e ∙ get_or-append-add (row n f) (f n ∷ []) 0 0 ∙ ap f (sym d)

pub length-rows : (w h : ℕ) (f : Frame) → length (rows w h f) ≡ w * h
unfolding rows
length-rows w zero f = sym (mul-zero w)
length-rows w (suc h) f =
    length-append (rows w h f) (row w (λ x. f x h))
    ∙ (let a = length-rows w h f in let b = length-row w (λ x. f x h) in let c = mul-suc w h in omega arith)

-- a row lies in its frame
pub row_fits : (w h y : ℕ) → y < h → y * w + w ≤ w * h
row_fits w h y l = let a = mul-le-mul_right {m = suc y} {n = h} w l in let b = suc-mul y w in let c = mul_comm w h in omega arith

pub pixel-fits : (w h x y : ℕ) → x < w → y < h → y * w + x < w * h
pixel-fits w h x y k l = let a = row_fits w h y l in omega arith

pub get_d_rows : (w h : ℕ) (f : Frame) (x y : ℕ) → x < w → y < h → get_or (rows w h f) (y * w + x) 0 ≡ f x y
unfolding rows
get_d_rows w zero f x y k l = absurd (omega arith)
get_d_rows w (suc h) f x y k l = ⊎_elim (λ (m : y < h). old m (get_d_rows w h f x y k m)) new (order y h)
  where
    old : y < h → get_or (rows w h f) (y * w + x) 0 ≡ f x y → get_or (rows w h f ++ row w (λ z. f z h)) (y * w + x) 0 ≡ f x y
    old m e =
        get_or-append (rows w h f) (row w (λ z. f z h)) 0 (y * w + x)
        (let a = length-rows w h f in let b = pixel-fits w h x y k m in omega arith)
        ∙ e

    new : h ≤ y → get_or (rows w h f ++ row w (λ z. f z h)) (y * w + x) 0 ≡ f x y
    new m =
        let d : y ≡ h = omega arith in
        let e : y * w + x ≡ length (rows w h f) + x = let a = length-rows w h f in let b = mul_comm w h in let c = ap (λ (j : ℕ). j * w) d in omega arith in
        ap (λ (j : ℕ). get_or (rows w h f ++ row w (λ z. f z h)) j 0) e
        ∙ get_or-append-add (rows w h f) (row w (λ z. f z h)) x 0
        ∙ get_d-row w (λ z. f z h) x k
        ∙ ap (λ (j : ℕ). f x j) (sym d)

-- every place of a frame's list is a pixel's
pub place : (w h m : ℕ) → m < w * h → (m / w * w + m % w ≡ m) × (m % w < w) × (m / w < h)
place zero h m l = absurd (let z = zero-mul h in omega arith)
place (suc w) h m l =
    let p : 0 < suc w = omega arith in
    let q : m < h * suc w = let a = mul_comm (suc w) h in omega arith in
    (div-add-mod' m (suc w), mod-lt m p, (div-lt_iff_lt-mul {k = suc w} {x = m} {y = h} p).1 q)

-- An output list is known by its pixels and its excess.
pub written_is : (w h : ℕ) (f : Frame) (old new : List ℕ) → length new ≡ length old → w * h ≤ length old
    → ((x y : ℕ) → x < w → y < h → get_or new (y * w + x) 0 ≡ f x y)
    → ((m : ℕ) → w * h ≤ m → get_or new m 0 ≡ get_or old m 0)
    → new ≡ written_over (rows w h f) old
written_is w h f old new len room done excess = ext_get_or 0 new (written_over (rows w h f) old) lengths (λ i l. ⊎_elim (inside i) (outside i) (order i (w * h)))
  where
    size : length (rows w h f) ≡ w * h
    size = length-rows w h f

    lengths : length new ≡ length (written_over (rows w h f) old)
    lengths = len ∙ sym (length-append (rows w h f) (drop (length (rows w h f)) old) ∙ (let a = length-drop (length (rows w h f)) old in let b = size in omega arith))

    inside : (i : ℕ) → i < w * h → get_or new i 0 ≡ get_or (written_over (rows w h f) old) i 0
    inside i l =
        let p = place w h i l in
        ap (λ (j : ℕ). get_or new j 0) (sym p.0)
        ∙ done (i % w) (i / w) p.1 p.2
        ∙ sym (get_d_rows w h f (i % w) (i / w) p.1 p.2)
        ∙ ap (λ (j : ℕ). get_or (rows w h f) j 0) p.0
        ∙ sym (get_or-append (rows w h f) (drop (length (rows w h f)) old) 0 i (let b = size in omega arith))

    outside : (i : ℕ) → w * h ≤ i → get_or new i 0 ≡ get_or (written_over (rows w h f) old) i 0
    outside i l =
        let n = length (rows w h f) in
        let e : n + (i - n) ≡ i = let b = size in omega arith in
        excess i l
        ∙ ap (λ (j : ℕ). get_or old j 0) (sym e)
        ∙ sym (get_or-drop n old (i - n) 0)
        ∙ sym (get_or-append-add (rows w h f) (drop n old) (i - n) 0)
        ∙ ap (λ (j : ℕ). get_or (written_over (rows w h f) old) j 0) e

pub row-none : (to : ℕ) (f : ℕ → ℕ) (before : List ℕ) → RowAt to f before 0 before
row-none to f before = record { len = refl; under = λ m l. refl; done = λ k l. absurd (omega arith); over = λ m l. refl }

pub row_more : (to : ℕ) (f : ℕ → ℕ) (before : List ℕ) (n : ℕ) (after : List ℕ) (v : ℕ) → to + n < length before
    → RowAt to f before n after → v ≡ f n → RowAt to f before (n + 1) (set after (to + n) v)
row_more to f before n after v room r e = record {
  len = length-set after (to + n) v ∙ r.len;
  under = λ m l. get_or-set_other after (to + n) m v 0 (omega arith) ∙ r.under m l;
  done = λ k l. ⊎_elim (old k) (new k l) (order k n);
  over = λ m l. get_or-set_other after (to + n) m v 0 (omega arith) ∙ r.over m (omega arith);
}
  where
    old : (k : ℕ) → k < n → get_or (set after (to + n) v) (to + k) 0 ≡ f k
    old k l = get_or-set_other after (to + n) (to + k) v 0 (omega arith) ∙ r.done k l

    new : (k : ℕ) → k < n + 1 → n ≤ k → get_or (set after (to + n) v) (to + k) 0 ≡ f k
    new k l m =
        let d : k ≡ n = omega arith in
        ap (λ (j : ℕ). get_or (set after (to + n) v) (to + j) 0) d
        ∙ get_or-set_same after (to + n) v 0 (let a = r.len in omega arith)
        ∙ e ∙ ap f (sym d)

-- A row known by another rule with the same numbers.
pub row-ext : (to : ℕ) (f g : ℕ → ℕ) (before after : List ℕ) (n : ℕ) → ((k : ℕ) → k < n → f k ≡ g k)
    → RowAt to f before n after → RowAt to g before n after
row-ext to f g before after n same r = record { len = r.len; under = r.under; done = λ k l. r.done k l ∙ same k l; over = r.over }

pub frame-none : (to w : ℕ) (f : Frame) (before : List ℕ) → FrameAt to w f before 0 before
frame-none to w f before = record { len = refl; under = λ m l. refl; done = λ x z k l. absurd (omega arith); over = λ m l. refl }

pub frame-more : (to w : ℕ) (f : Frame) (before : List ℕ) (y : ℕ) (mid after : List ℕ)
    → FrameAt to w f before y mid → RowAt (to + y * w) (λ x. f x y) mid w after → FrameAt to w f before (y + 1) after
frame-more to w f before y mid after a r = record {
  len = r.len ∙ a.len;
  under = λ m l. r.under m (omega arith) ∙ a.under m l;
  done = λ x z k l. ⊎_elim (old x z k) (new x z k l) (order z y);
  over = λ m l. let e = suc-mul y w in let d : (y + 1) * w ≡ suc y * w = ap (λ (j : ℕ). j * w) (add-one y) in r.over m (omega arith) ∙ a.over m (omega arith);
}
  where
    old : (x z : ℕ) → x < w → z < y → get_or after (to + (z * w + x)) 0 ≡ f x z
    old x z k l = r.under (to + (z * w + x)) (let b = mul-le-mul_right {m = suc z} {n = y} w l in let c = suc-mul z w in omega arith) ∙ a.done x z k l

    new : (x z : ℕ) → x < w → z < y + 1 → y ≤ z → get_or after (to + (z * w + x)) 0 ≡ f x z
    new x z k l m =
        let d : z ≡ y = omega arith in
        let e : to + (y * w + x) ≡ to + y * w + x = omega arith in
        ap (λ (j : ℕ). get_or after (to + (j * w + x)) 0) d ∙ ap (λ (j : ℕ). get_or after j 0) e ∙ r.done x k ∙ ap (λ (j : ℕ). f x j) (sym d)

-- the whole frame written at the beginning of a lent list
pub frame-written : (w h : ℕ) (f : Frame) (before after : List ℕ) → w * h ≤ length before → FrameAt 0 w f before h after
    → after ≡ written_over (rows w h f) before
frame-written w h f before after room a =
    written_is w h f before after a.len room
    (λ x y k l. ap (λ (j : ℕ). get_or after j 0) (sym (zero-add (y * w + x))) ∙ a.done x y k l)
    (λ m l. a.over m (let c = mul_comm w h in omega arith))

-- A row written in two parts.
pub row-join : (to : ℕ) (f g : ℕ → ℕ) (before mid after : List ℕ) (k m : ℕ)
    → RowAt to f before k mid
    → RowAt (to + k) g mid m after
    → ((j : ℕ) → j < m → g j ≡ f (k + j))
    → RowAt to f before (k + m) after
row-join to f g before mid after k m a b same = record {
  len = b.len ∙ a.len;
  under = λ i l. b.under i (omega arith) ∙ a.under i l;
  done = λ i l. ⊎_elim (old i) (new i l) (order i k);
  over = λ i l. b.over i (omega arith) ∙ a.over i (omega arith);
}
  where
    old : (i : ℕ) → i < k → get_or after (to + i) 0 ≡ f i
    old i l = b.under (to + i) (omega arith) ∙ a.done i l

    new : (i : ℕ) → i < k + m → k ≤ i → get_or after (to + i) 0 ≡ f i
    new i l n =
        let d : k + (i - k) ≡ i = omega arith in
        let e : to + i ≡ to + k + (i - k) = omega arith in
        ap (λ (j : ℕ). get_or after j 0) e ∙ b.done (i - k) (omega arith) ∙ same (i - k) (omega arith) ∙ ap f d

-- numbers written flat are a frame
pub flat-frame : (to w h : ℕ) (f : ℕ → ℕ) (before after : List ℕ) → RowAt to f before (w * h) after
    → FrameAt to w (λ x y. f (y * w + x)) before h after
flat-frame to w h f before after r = record {
  len = r.len;
  under = r.under;
  done = λ x y k l. r.done (y * w + x) (pixel-fits w h x y k l);
  over = λ m l. r.over m (let c = mul_comm w h in omega arith);
}
