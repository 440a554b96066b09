-- What the writer wrote is a file of the grammar, and so it is read again.
use mathlib.Core.Path.{◌≡◌, refl, sym, ◌∙◌}
use mathlib.Core.Bool.{true}
use mathlib.Core.List.{List, [], ◌∷◌, ◌++◌, append_assoc}
use Prim.Native.Nat.{ℕ, ◌-◌, ◌<◌}
use native.Mathlib.Omega.{arith}
use lib.ListN.{length, take, drop, length-append}
use lib.Seq.{take-append_seam, drop-append_seam}
use borrow.Author.Tests.{eq-eqb}
use Rattle.text.specs.Digits.{digits}
use Rattle.text.proofs.ReadLaws.{leading-nil}
use Rattle.text.proofs.DigitLaws.{read-digits}
use Rattle.rules.specs.Refusals.{raster_length}
use Rattle.p6_whitespace.specs.Whitespace.{is_white, White, Whitespace}
use Rattle.std.proofs.Common.{Some}
use Rattle.p6_header.specs.P6Grammar.{magic, Spells, Field}
use Rattle.p6_header.proofs.PieceLaws.{number_spelled}
use Rattle.ppm_read.specs.P6.{header_refusal}
use Rattle.ppm_read.specs.Reads.{Answered}
use Rattle.ppm_read.proofs.ReadsLaws.{accepted-before}
use Rattle.ppm_write.specs.P6Writes.{header, p6_file, write_out}
use Rattle.ppm_write.specs.RoundTrip.{EmitsNone, RoundTrip}
use Rattle.ppm_write.proofs.P6WriteLaws.{WriteOk, write-ok}

digits-spelled : (n : ℕ) → n < 1000000000 → Spells n (digits n)
digits-spelled n k = rw take-append_seam at (number_spelled (digits n ++ []) (record { value = n; count = length (digits n) }) (read-digits n [] k (leading-nil _)))

-- a field as the writer puts it: a byte of whitespace, and digits
field-written : (b n : ℕ) → is_white b ≡ true → n < 1000000000 → Field White n ((b ∷ []) ++ digits n)
field-written b n e k = record {
  blanks = b ∷ [];
  number = digits n;
  spelled = refl;
  whitespace = Whitespace.one (White.byte e);
  spells = digits-spelled n k;
}

-- the writer's pieces, grouped into fields
grouped : (m b1 d1 b2 d2 b3 d3 b4 l : List ℕ) → (m ++ b1 ++ d1 ++ b2 ++ d2 ++ b3 ++ d3 ++ b4) ++ l ≡ m ++ (b1 ++ d1) ++ (b2 ++ d2) ++ (b3 ++ d3) ++ b4 ++ l
grouped m b1 d1 b2 d2 b3 d3 b4 l = simp append_assoc

pub emits_none : EmitsNone
unfolding header is_white
emits_none w h raster out e =
    let s = (write-ok w h (length raster) (length out) e).size in
    record {
      width = (10 ∷ []) ++ digits w;
      height = (32 ∷ []) ++ digits h;
      largest = (10 ∷ []) ++ digits 255;
      white = 10;
      raster = raster;
      spelled = grouped magic (10 ∷ []) (digits w) (32 ∷ []) (digits h) (10 ∷ []) (digits 255) (10 ∷ []) raster;
      is_width = field-written 10 w refl (omega arith);
      is_height = field-written 32 h refl (omega arith);
      is255 = field-written 10 255 refl (omega arith);
      is_one = refl;
      begins = sym (length-append (header w h) raster);
    }

-- Writing a frame and then reading it is the identity.
pub round_trip : RoundTrip
unfolding header_refusal
round_trip w h raster out e = rw written (read.size, read.raster ∙ drop-append_seam (header w h) raster)
  where
    ok : WriteOk w h (length raster) (length out)
    ok = write-ok w h (length raster) (length out) e

    file : List ℕ
    file = p6_file w h raster

    written : take (length file) (write_out w h raster out) ≡ file
    written = rw e (take-append_seam file (drop (length file) out))

    rest : length file - length (header w h) ≡ raster_length w h
    rest = omega (arith, length-append (header w h) raster, ok.exact)

    none : header_refusal (Some (record { w = w; h = h; start = length (header w h) })) (length file) ≡ 0
    none = rw (ok.good, eq-eqb (length file - length (header w h)) (raster_length w h) rest)

    read : Answered file w h (length (header w h))
    read = accepted-before file w h (length (header w h)) (emits_none w h raster out e) none
