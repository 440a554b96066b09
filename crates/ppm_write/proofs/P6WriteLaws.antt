-- Laws of the writer: the header's length, and what an accepted call knows.
use Rattle.rules.specs.Answers.{answer_for}
use Rattle.std.specs.Prelude.{Err}
use mathlib.Core.Path.{◌≡◌, refl, sym, ap, ◌∙◌}
use mathlib.Core.Bool.{false}
use mathlib.Core.List.{List, [], ◌∷◌, ◌++◌, append_assoc}
use Prim.Native.Nat.{ℕ, zero, suc, ◌+◌, ◌*◌, ◌≤◌}
use native.Mathlib.Nat.{zero-add}
use native.Mathlib.Omega.{arith}
use lib.ListN.{length, length-append}
use borrow.Author.Tests.{ltb-false}
use Rattle.text.specs.Digits.{digits}
use Rattle.text.specs.Puts.{Put}
use Rattle.text.proofs.PutLaws.{put-length, put_then}
use Rattle.rules.specs.Refusals.{◌when◌, ◌or_else◌, bad_size, wrong_length, short, raster_length}
use Rattle.rules.specs.Accepted.{SizeOk}
use Rattle.rules.proofs.RefusalLaws.{when-no, or_else-no, length-is, size_ok}
use Rattle.p6_header.specs.P6Grammar.{magic}
use Rattle.ppm_write.specs.P6Writes.{header, write_refusal}

pub length-header : (w h : ℕ) → length (header w h) ≡ 2 + length (digits w) + length (digits h) + length (digits 255) + 4
unfolding header
length-header w h = simp length-append (omega arith)

-- the header up to each of the pieces that the writer puts: a number goes with the whitespace after it
abbrev pub up_to2 : List ℕ
up_to2 = magic ++ (10 ∷ [])

abbrev pub up_to3 : ℕ → List ℕ
up_to3 w = up_to2 ++ (digits w ++ (32 ∷ []))

abbrev pub up_to4 : ℕ → ℕ → List ℕ
up_to4 w h = up_to3 w ++ (digits h ++ (10 ∷ []))

abbrev pub up_to5 : ℕ → ℕ → List ℕ
up_to5 w h = up_to4 w h ++ (digits 255 ++ (10 ∷ []))

pub header-pieces : (w h : ℕ) → header w h ≡ up_to5 w h
unfolding header
header-pieces w h = simp append_assoc

-- a buffer with room for the header has room up to each piece
pub record PiecesFit (w h n : ℕ) : Type 0 where
  pub two : length up_to2 ≤ n
  pub three : length (up_to3 w) ≤ n
  pub four : length (up_to4 w h) ≤ n
  pub five : length (up_to5 w h) ≤ n

pub pieces-fit : (w h n : ℕ) → length (header w h) ≤ n → PiecesFit w h n
pieces-fit w h n l =
    let five : length (up_to5 w h) ≤ n = rw header-pieces at l in
    let four = length-append (up_to4 w h) (digits 255 ++ (10 ∷ [])) in
    let three = length-append (up_to3 w) (digits h ++ (10 ∷ [])) in
    let two = length-append up_to2 (digits w ++ (32 ∷ [])) in
    record { two = omega arith; three = omega arith; four = omega arith; five = five }

-- What stands at the beginning of a buffer, and the place after it.
pub record Begun (t b a : List ℕ) (at : ℕ) : Type 0 where
  pub place : at ≡ length t
  pub put : Put 0 t b a

pub begun_more : (t u b m a : List ℕ) (at next : ℕ) → Begun t b m at → next ≡ at + length u → Put at u m a → Begun (t ++ u) b a next
begun_more t u b m a at next s e p = record {
  place = e ∙ ap (λ (k : ℕ). k + length u) s.place ∙ sym (length-append t u);
  put = put_then 0 t u b m a s.put (rw (s.place ∙ sym (zero-add (length t))) at p);
}

pub begun-room : (t u b m : List ℕ) (at : ℕ) → Begun t b m at → length (t ++ u) ≤ length b → at + length u ≤ length m
begun-room t u b m at s l =
    let p = s.place in
    let k = put-length 0 t b m s.put in
    omega (arith, length-append t u)

pub record WriteOk (w h raster out : ℕ) : Type 0 where
  pub good : bad_size w h ≡ false
  pub size : SizeOk w h
  pub exact : raster ≡ 3 * (w * h)
  pub room : length (header w h) + raster ≤ out

pub write-ok : (w h raster out : ℕ) → write_refusal w h raster out ≡ 0 → WriteOk w h raster out
unfolding write_refusal
write-ok w h raster out e =
    let needed : ℕ = length (header w h) + raster_length w h in
    let n10 : ℕ = 10 when short needed out in
    let n9 : ℕ = 9 when wrong_length (raster_length w h) raster in
    let p = or_else-no (2 when bad_size w h) (n9 or_else n10) e in
    let q = or_else-no n9 n10 p.1 in
    let exact = length-is (raster_length w h) raster (when-no 9 (wrong_length (raster_length w h) raster) (omega arith) q.0) in
    record {
      good = when-no 2 (bad_size w h) (omega arith) p.0;
      size = size_ok w h p.0;
      exact = exact;
      room = rw exact (ltb-false out needed (when-no 10 (short needed out) (omega arith) q.1));
    }
