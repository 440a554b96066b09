-- Each piece follows what stands at the beginning, and the whole is as long as the pieces together.
use mathlib.Core.List.{[], ◌∷◌, ◌++◌}
use lib.ListN.{length}
use Rattle.text.specs.Digits.{digits}
use Rattle.p6_header.specs.P6Grammar.{magic}
use Rattle.ppm_write.proofs.P6WriteLaws.{up_to2, up_to3, up_to4, up_to5, header-pieces, Begun, begun_more, begun-room, PiecesFit, pieces-fit}
use native.Mathlib.Omega.{arith}
use borrow.Author.Rules.{rules}
use Rattle.ppm_write.proofs.writing.put_header.Statement.{statement}
use Rattle.ppm_write.proofs.writing.put_header.Tie as tie

-- the place of each call, from that of the next one
abbrev start : tie.After-put-at → tie.Start
start c = c.before.before.before.before.before

abbrev call1 : tie.After-put-at-2 → tie.After-put-at
call1 c = c.before.before.before.before.before.before

abbrev call2 : tie.After-put_field-at → tie.After-put-at-2
call2 c = c.before.before.before.before.before.before

abbrev call3 : tie.After-put_field-at-2 → tie.After-put_field-at
call3 c = c.before.before.before.before.before.before

abbrev call4 : tie.After-put_field → tie.After-put_field-at-2
call4 c = c.before.before.before.before.before.before

-- what stands at the beginning after each call
begun1 : (c : tie.After-put-at) → Begun magic (start c).args.out.now c.put-at.new.out c.put-at.result
begun1 c = record { place = c.put-at.ensures.0; put = c.put-at.ensures.1 }

begun2 : (c : tie.After-put-at-2) → Begun up_to2 (start (call1 c)).args.out.now c.put-at-2.new.out c.put-at-2.result
begun2 c = begun_more _ _ _ _ _ _ _ (begun1 (call1 c)) c.put-at-2.ensures.0 c.put-at-2.ensures.1

begun3 : (c : tie.After-put_field-at)
    → let a = (start (call1 (call2 c))).args in Begun (up_to3 a.w) a.out.now c.put_field-at.new.out c.put_field-at.result
begun3 c = begun_more _ _ _ _ _ _ _ (begun2 (call2 c)) c.put_field-at.ensures.0 c.put_field-at.ensures.1

begun4 : (c : tie.After-put_field-at-2)
    → let a = (start (call1 (call2 (call3 c)))).args in Begun (up_to4 a.w a.h) a.out.now c.put_field-at-2.new.out c.put_field-at-2.result
begun4 c = begun_more _ _ _ _ _ _ _ (begun3 (call3 c)) c.put_field-at-2.ensures.0 c.put_field-at-2.ensures.1

begun5 : (c : tie.After-put_field)
    → let a = (start (call1 (call2 (call3 (call4 c))))).args in Begun (up_to5 a.w a.h) a.out.now c.put_field.new.out c.put_field.result
begun5 c = begun_more _ _ _ _ _ _ _ (begun4 (call4 c)) c.put_field.ensures.0 c.put_field.ensures.1

-- the buffer has room for each piece
fits : (c : tie.Start) → PiecesFit c.args.w c.args.h (length c.args.out.now)
fits c = pieces-fit _ _ _ c.requires

put-requires : tie.Need-put-at-requires
put-requires c κs = omega (arith, fits c.before.before.before.before)

put-requires-2 : tie.Need-put-at-requires-2
put-requires-2 c κs =
    let p = c in
    begun-room _ (10 ∷ []) _ _ _ (begun1 p.before.before.before.before.before) (fits (start p.before.before.before.before.before)).two

put-field-requires : tie.Need-put_field-at-requires
put-field-requires c κs =
    let p = c in
    let s = start (call1 p.before.before.before.before.before) in
    begun-room _ (digits s.args.w ++ (32 ∷ [])) _ _ _ (begun2 p.before.before.before.before.before) (fits s).three

put-field-requires-2 : tie.Need-put_field-at-requires-2
put-field-requires-2 c κs =
    let p = c in
    begun-room _ _ _ _ _ (begun3 p.before.before.before.before.before) (fits (start (call1 (call2 p.before.before.before.before.before)))).four

put-field-requires-3 : tie.Need-put_field-requires
put-field-requires-3 c κs =
    let p = c in
    begun-room _ _ _ _ _ (begun4 p.before.before.before.before.before) (fits (start (call1 (call2 (call3 p.before.before.before.before.before))))).five

same_length : tie.Need-shape_of-out
same_length c = search rules

returns : tie.Need-returns
returns c =
    let b = begun5 c.before.before in
    rw header-pieces (b.place, b.put)

pub put_header_spec : {M : Type 1} → statement M
put_header_spec =
    tie.close
    (tie.spec
    put-requires
    put-requires-2
    put-field-requires
    put-field-requires-2
    put-field-requires-3
    same_length
    returns)
