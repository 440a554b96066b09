-- What a number of the held memory says to a function that it is passed to, and the tests of the pairs one after another.
use mathlib.Core.Path.{◌≡◌, refl, ap, ◌∙◌}
use mathlib.Core.Bool.{Bool, true, false, ◌||◌}
use mathlib.Core.List.{List}
use Prim.Native.Nat.{ℕ, zero, suc, ◌*◌, ◌^◌, ◌≤◌, ◌<◌}
use native.Mathlib.Numerals.{add-one}
use native.Mathlib.Omega.{arith}
use lib.Dec.{ltb}
use lib.IntN.{ℤ, pos, negsuc, nat_abs}
use lib.ListN.{length, take, drop}
use lib.Seq.{take-suc}
use lib.Signed.{mag}
use mir.Syntax.{w32}
use mir.Val.{to_z, of_z}
use mir.Facts.{to_z-of_z}
use Rattle.std.proofs.Common.{Result, Ok, Err}
use Rattle.std.specs.Result.{OkIff, result_unwrap_or}
use Rattle.std.specs.Int.{FitsUnsignedBits}
use Rattle.std.specs.declared.num.TryFromIntError.{TryFromIntError}
use Rattle.std.specs.List.{list_any}
use Rattle.std.proofs.lemmas.List.Folds.{list_any-append}
use Rattle.live.specs.Held.{pair_place, natural, held_pair}
use Rattle.live.specs.Steps.{some_far}

-- what a function says of a number that it was passed
pub passed : {A : Type 0} (f : ℤ → A) (z : ℤ) (r : A) → mag z < 2 ^ 31 → r ≡ f (to_z w32 (of_z w32 z)) → r ≡ f z
passed f z r l e = e ∙ ap f (to_z-of_z {w = w32} (record { sfits = l }))

-- One of the first n pairs is far where one of their numbers is.
both : (a x y : Bool) → (a || (x || false)) || (y || false) ≡ a || (x || y)
both true x y = refl
both false true y = refl
both false false true = refl
both false false false = refl

pub some-far-any : (bound : ℕ) (held : List ℤ) (n m : ℕ) → m ≡ 2 * n → m ≤ length (drop pair_place held)
    → list_any (λ x. ltb bound (nat_abs x)) (take m (drop pair_place held)) ≡ some_far bound (held_pair held) n
unfolding some_far
some-far-any bound held zero m e k = rw e
some-far-any bound held (suc n) m e k =
    let l : List ℤ = drop pair_place held in
    let twice : m ≡ suc (suc (2 * n)) = omega arith in
    let last = take-suc l (suc (2 * n)) (pos 0) (omega arith) in
    let first = take-suc l (2 * n) (pos 0) (omega arith) in
    rw (twice, last, first, list_any-append, list_any-append, some-far-any bound held n (2 * n) refl (omega arith), add-one (2 * n))
    (both (some_far bound (held_pair held) n) _ _)

-- a number below 0 does not convert
pub natural_is : (z : ℤ) (r : Result ℕ TryFromIntError) → mag z < 2 ^ 31 → OkIff r (FitsUnsignedBits 32 z) (nat_abs z) → result_unwrap_or r 65536 ≡ natural z
unfolding natural
natural_is (pos n) (Ok x) l e = e.1
natural_is (pos n) (Err x) l e = absurd (e (omega arith))
natural_is (negsuc n) (Ok x) l e = absurd e.0
natural_is (negsuc n) (Err x) l e = refl
