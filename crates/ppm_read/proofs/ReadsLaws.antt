-- The readers by the grammar: the header that is found is the grammar's.
use Rattle.rules.specs.Answers.{answer_for}
use Rattle.std.specs.Prelude.{Err}
use mathlib.Core.Path.{◌≡◌, refl, ap, ◌∙◌}
use mathlib.Core.List.{List}
use Prim.Native.Nat.{ℕ, zero, suc, ◌-◌, ◌≤◌}
use native.Mathlib.Nat.{mul-pos}
use native.Mathlib.Omega.{arith}
use Rattle.std.proofs.Common.{Option, Some, None}
use lib.ListN.{length, drop, length-drop}
use Rattle.rules.specs.Refusals.{◌when◌, bad_size, wrong_length, raster_length}
use Rattle.rules.specs.Parts.{part_or}
use Rattle.rules.proofs.RefusalLaws.{when-no, or_else-no, length-is, size_ok}
use Rattle.p6_whitespace.specs.Whitespace.{WhiteOrComment}
use Rattle.p6_header.specs.declared.Header.{Header}
use Rattle.p6_header.specs.ByGrammar.{Tells}
use Rattle.p6_header.specs.P6Header.{header_of, start_in}
use Rattle.p6_header.proofs.GrammarLaws.{by-grammar, as_before}
use Rattle.ppm_read.specs.P6.{header_refusal, p6_refusal, size_in, size_answer}
use Rattle.ppm_read.specs.Reads.{Answered, Reads, agreed, Agree, AcceptedBefore}

none : (file : List ℕ) → Tells WhiteOrComment file None → size_answer file ≡ Err 1
unfolding p6_refusal header_refusal
none file l = rw (by-grammar.only file None l)

answered : (file : List ℕ) (w h start : ℕ) → header_of file ≡ Some (record { w = w; h = h; start = start }) → p6_refusal file ≡ 0 → Answered file w h start
unfolding size_in start_in
answered file w h start e z = record { size = rw (z, e); raster = rw (z, e); begins = rw e }

pub reads : Reads
unfolding p6_refusal
reads = record {
  none = none;
  number = λ file w h start p. rw (by-grammar.only file (Some (record { w = w; h = h; start = start })) p);
  answer = λ file w h start p z. answered file w h start (by-grammar.only file (Some (record { w = w; h = h; start = start })) p) z;
}

-- the bytes after a good header that is not refused
rest-length : (r : Option Header) (bytes : ℕ) → header_refusal r bytes ≡ 0 → let size = size_in r in (bytes - start_in r ≡ raster_length size.w size.h) × (1 ≤ raster_length size.w size.h)
unfolding header_refusal size_in start_in
rest-length None bytes e = absurd (omega arith)
rest-length (Some header) bytes e =
    let needed = raster_length header.w header.h in
    let given = bytes - header.start in
    let p = or_else-no (2 when bad_size header.w header.h) (9 when wrong_length needed given) e in
    let s = size_ok header.w header.h p.0 in
    (length-is needed given (when-no 9 (wrong_length needed given) (omega arith) p.1), omega (arith, mul-pos {m = header.w} {n = header.h} s.wide s.high))

pub agree : Agree
unfolding p6_refusal
agree file place part part_place c = split (p6_refusal file) refl c.holds
  where
    split : (n : ℕ) → p6_refusal file ≡ n → part ≡ part_or n (drop (start_in (header_of file)) file) → agreed (answer_for n (size_in (header_of file))) part
    split zero z is =
        let r = rest-length (header_of file) (length file) z in
        let size : length part ≡ raster_length _ _ = ap length is ∙ length-drop (start_in (header_of file)) file ∙ r.0 in
        (size, omega (arith, r.1))
    split (suc n) z is = is

pub accepted-before : AcceptedBefore
unfolding p6_refusal
accepted-before file w h start p z =
    let e = as_before.kept file w h start p in
    answered file w h start e (rw e z)
