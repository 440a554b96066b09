-- Parts of lent slices, handed back.
use Rattle.std.specs.Prelude.{List, [], ℕ, zero, suc, ◌+◌}

-- "A call that hands back part of a lent slice hands back an empty part when refused": what the part holds, with this refusal number
abbrev pub part_or : ℕ → List ℕ → List ℕ
part_or zero part = part
part_or (suc n) part = []

-- where a slice lies in memory: in which block, and from which of its bytes on (in a contract, `ref_ptr`)
abbrev pub Place : Type 0
Place = ℕ × ℕ

-- where the part of a slice of bytes lies that begins with its byte `from`
abbrev pub place_from : ℕ → Place → Place
place_from from place = (place.0, from + place.1)
