-- The first byte decides.
use Rattle.std.proofs.Common.{◌≡◌, get_or, sym, ◌∙◌}
use Rattle.std.proofs.lemmas.Option.{get_or_from_slice_get}
use borrow.Author.Tests.{eq-eqb, ne_eqb}
use Rattle.p6_whitespace.specs.Blanks.{blank_length}
use Rattle.p6_whitespace.proofs.BlankLaws.{blank-none}
use Rattle.p6_whitespace.proofs.blank_length.Goals as goal

pub returns-in_default : goal.returns-in_default
returns-in_default c = blank-none c.args.bytes.now c.in_default.ensures.value

pub returns-then-is_white : goal.returns-then-is_white
unfolding blank_length
returns-then-is_white c =
    let first : get_or c.args.bytes.now 0 0 ≡ c.in-Some.first.now = get_or_from_slice_get _ 0 _ 0 (sym c.in-Some.ensures.value) in
    simp (first, sym c.is_white.ensures ∙ c.if-is_white.true)

pub returns-then-first-eq-HASH : goal.returns-then-first-eq-HASH
unfolding blank_length
returns-then-first-eq-HASH c =
    let first : get_or c.args.bytes.now 0 0 ≡ c.in-Some.first.now = get_or_from_slice_get _ 0 _ 0 (sym c.in-Some.ensures.value) in
    simp (first, sym c.is_white.ensures ∙ c.if-is_white.false, eq-eqb c.in-Some.first.now 0x23 c.if-first-eq-HASH.true) c.comment_length.ensures

pub returns : goal.returns
unfolding blank_length
returns c =
    let first : get_or c.args.bytes.now 0 0 ≡ c.in-Some.first.now = get_or_from_slice_get _ 0 _ 0 (sym c.in-Some.ensures.value) in
    simp (first, sym c.is_white.ensures ∙ c.if-is_white.false, ne_eqb c.in-Some.first.now 0x23 c.if-first-eq-HASH.false)
