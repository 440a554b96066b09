-- Whitespace leads, and a number follows: the slice that is lent to its reader is the rest of the bytes.
use Rattle.std.proofs.Common.{◌≡◌, ℕ, ◌-◌, List, length, take, drop, Option, sym, ap, ◌∙◌, arith}
use Rattle.text.specs.declared.Number.{Number}
use Rattle.text.specs.Digits.{number_of}
use Rattle.text.proofs.ReadLaws.{read_ok}
use Rattle.p6_whitespace.proofs.BlankLaws.{rest-whole, whitespace-in}
use Rattle.p6_header.proofs.FieldLaws.{field-none, field-bad, field-read}
use Rattle.p6_header.proofs.read_field.Goals as goal

-- the number that was read stands after the whitespace
found : (bytes : List ℕ) (blanks : ℕ) (r : Option Number) → r ≡ number_of (take (length bytes - blanks) (drop blanks bytes)) → number_of (drop blanks bytes) ≡ r
found bytes blanks r e = ap number_of (sym (rest-whole bytes blanks)) ∙ sym e

pub returns-then-blanks-eq0 : goal.returns-then-blanks-eq0
returns-then-blanks-eq0 c = field-none c.args.bytes.now (sym c.whitespace_length-blanks.ensures ∙ c.if-blanks-eq0.true)

pub slice_bounds-read_number-count : goal.slice_bounds-read_number-count
slice_bounds-read_number-count c = omega (arith, whitespace-in c.args.bytes.now)

pub slice_bounds-read_number-start : goal.slice_bounds-read_number-start
slice_bounds-read_number-start c = omega (arith, whitespace-in c.args.bytes.now)

pub returns-in_err-number : goal.returns-in_err-number
returns-in_err-number c =
    let blanks = c.whitespace_length-blanks in
    c.from_residual.ensures ∙ field-bad c.args.bytes.now blanks.result blanks.ensures (found c.args.bytes.now blanks.result _ c.in_err-number.ensures)

pub overflow_add-result : goal.overflow_add-result
overflow_add-result c =
    let blanks = c.whitespace_length-blanks.result in
    let s = read_ok (drop blanks c.args.bytes.now) _ (found c.args.bytes.now blanks _ c.in_ok-number.ensures) in
    omega (arith, whitespace-in c.args.bytes.now)

pub returns : goal.returns
returns c =
    let blanks = c.whitespace_length-blanks in
    field-read c.args.bytes.now blanks.result _ blanks.ensures (omega arith) (found c.args.bytes.now blanks.result _ c.in_ok-number.ensures)
