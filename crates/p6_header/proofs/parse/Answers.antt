-- Each return rewrites with the fields on the way there. A field ends in the file, so the next one's place is in it or at its end.
use Rattle.std.proofs.Common.{◌≡◌, true, None, sym, refl, ◌∙◌, arith}
use Rattle.p6_header.specs.P6Header.{is_magic, after, fields, header_of}
use Rattle.p6_header.proofs.FieldLaws.{field_told, field_at}
use Rattle.p6_header.proofs.HeaderLaws.{magic-long}
use Rattle.p6_header.proofs.GrammarLaws.{tells-found}
use Rattle.p6_header.proofs.parse.Goals as goal

pub returns-then-not-is_magic : goal.returns-then-not-is_magic
unfolding header_of
returns-then-not-is_magic c = tells-found _ None (rw (sym c.is_magic.ensures ∙ c.if-not-is_magic.true))

pub slice_bounds-read_field-count : goal.slice_bounds-read_field-count
slice_bounds-read_field-count c =
    omega (arith, magic-long _ (sym c.is_magic.ensures ∙ c.if-not-is_magic.false))

pub slice_bounds-read_field-start : goal.slice_bounds-read_field-start
slice_bounds-read_field-start c =
    omega (arith, magic-long _ (sym c.is_magic.ensures ∙ c.if-not-is_magic.false))

pub returns-in_err-w : goal.returns-in_err-w
unfolding header_of fields after
returns-in_err-w c =
    let file = c.args.file.now in
    let marked : is_magic file ≡ true = sym c.is_magic.ensures ∙ c.if-not-is_magic.false in
    tells-found file c.from_residual.result (c.from_residual.ensures ∙ rw (marked, field_told file 2 None _ c.in_err-w.ensures refl))

pub overflow_add-at1 : goal.overflow_add-at1
overflow_add-at1 c =
    let file = c.args.file.now in
    let marked : is_magic file ≡ true = sym c.is_magic.ensures ∙ c.if-not-is_magic.false in
    let first = field_at file 2 _ (magic-long file marked) c.in_ok-w.ensures in
    omega arith

pub slice_bounds-read_field-count-2 : goal.slice_bounds-read_field-count-2
slice_bounds-read_field-count-2 c =
    let file = c.args.file.now in
    let marked : is_magic file ≡ true = sym c.is_magic.ensures ∙ c.if-not-is_magic.false in
    let first = field_at file 2 _ (magic-long file marked) c.in_ok-w.ensures in
    omega arith

pub slice_bounds-read_field-start-2 : goal.slice_bounds-read_field-start-2
slice_bounds-read_field-start-2 c =
    let file = c.args.file.now in
    let marked : is_magic file ≡ true = sym c.is_magic.ensures ∙ c.if-not-is_magic.false in
    let first = field_at file 2 _ (magic-long file marked) c.in_ok-w.ensures in
    omega arith

pub returns-in_err-h : goal.returns-in_err-h
unfolding header_of fields after
returns-in_err-h c =
    let file = c.args.file.now in
    let marked : is_magic file ≡ true = sym c.is_magic.ensures ∙ c.if-not-is_magic.false in
    let first = field_at file 2 _ (magic-long file marked) c.in_ok-w.ensures in
    tells-found file c.from_residual-in_err-h.result (c.from_residual-in_err-h.ensures ∙ rw (marked, first.is, field_told file _ None _ c.in_err-h.ensures refl))

pub overflow_add-at2 : goal.overflow_add-at2
overflow_add-at2 c =
    let file = c.args.file.now in
    let marked : is_magic file ≡ true = sym c.is_magic.ensures ∙ c.if-not-is_magic.false in
    let first = field_at file 2 _ (magic-long file marked) c.in_ok-w.ensures in
    let second = field_at file _ _ first.within c.in_ok-h.ensures in
    omega arith

pub slice_bounds-read_field-count-3 : goal.slice_bounds-read_field-count-3
slice_bounds-read_field-count-3 c =
    let file = c.args.file.now in
    let marked : is_magic file ≡ true = sym c.is_magic.ensures ∙ c.if-not-is_magic.false in
    let first = field_at file 2 _ (magic-long file marked) c.in_ok-w.ensures in
    let second = field_at file _ _ first.within c.in_ok-h.ensures in
    omega arith

pub slice_bounds-read_field-start-3 : goal.slice_bounds-read_field-start-3
slice_bounds-read_field-start-3 c =
    let file = c.args.file.now in
    let marked : is_magic file ≡ true = sym c.is_magic.ensures ∙ c.if-not-is_magic.false in
    let first = field_at file 2 _ (magic-long file marked) c.in_ok-w.ensures in
    let second = field_at file _ _ first.within c.in_ok-h.ensures in
    omega arith

pub returns-in_err-largest : goal.returns-in_err-largest
unfolding header_of fields after
returns-in_err-largest c =
    let file = c.args.file.now in
    let marked : is_magic file ≡ true = sym c.is_magic.ensures ∙ c.if-not-is_magic.false in
    let first = field_at file 2 _ (magic-long file marked) c.in_ok-w.ensures in
    let second = field_at file _ _ first.within c.in_ok-h.ensures in
    tells-found file c.from_residual-in_err-largest.result (c.from_residual-in_err-largest.ensures ∙ rw (marked, first.is, second.is, field_told file _ None _ c.in_err-largest.ensures refl))

pub overflow_add-at2-2 : goal.overflow_add-at2-2
overflow_add-at2-2 c =
    let file = c.args.file.now in
    let marked : is_magic file ≡ true = sym c.is_magic.ensures ∙ c.if-not-is_magic.false in
    let first = field_at file 2 _ (magic-long file marked) c.in_ok-w.ensures in
    let second = field_at file _ _ first.within c.in_ok-h.ensures in
    let third = field_at file _ _ second.within c.in_ok-largest.ensures in
    omega arith

pub returns : goal.returns
unfolding header_of fields after
returns c =
    let file = c.args.file.now in
    let marked : is_magic file ≡ true = sym c.is_magic.ensures ∙ c.if-not-is_magic.false in
    let first = field_at file 2 _ (magic-long file marked) c.in_ok-w.ensures in
    let second = field_at file _ _ first.within c.in_ok-h.ensures in
    let third = field_at file _ _ second.within c.in_ok-largest.ensures in
    tells-found file c.finish.result (rw (c.finish.ensures, marked, first.is, second.is, third.is))
