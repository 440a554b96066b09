-- Demand 3 of what the call writes, from the call's contract and the theorem about the definitions.
use Rattle.std.specs.Prelude.{Result, ⊤}
use mathlib.Core.Path.{◌≡◌, refl, sym, ap, subst, ◌∙◌}
use mathlib.Core.List.{List}
use Prim.Native.Nat.{ℕ, ◌+◌, ◌*◌, ◌-◌}
use native.Mathlib.Omega.{arith}
use lib.IntN.{ℤ}
use lib.ListN.{length, get_or}
use Rattle.rules.specs.declared.Offset.{Offset}
use Rattle.rules.specs.declared.Order.{Order}
use Rattle.rules.specs.Answers.{written, buffer_after}
use Rattle.rules.specs.Accepted.{SeriesOk}
use Rattle.rules.specs.Levels.{order_of, Arrangement, arranged, rule_of}
use Rattle.rules.specs.Series.{Settings, series_answer}
use Rattle.rules.specs.Calls.{series_number, SeriesCall}
use Rattle.rules.proofs.RefusalLaws.{buffer-part}
use Rattle.rules.proofs.AlignmentLaws.{series-ok}
use Rattle.reexposure.specs.Reexposure.{Bytes, Sound, EachByOrder, Bounded, Alike}
use Rattle.reexposure.proofs.OrderLaws.{setting-by-order}
use Rattle.reexposure.proofs.Theorem.{demand3}
use Rattle.rules.proofs.LevelLaws.{ward_places, least_move_places, ward-arrangement, least-move-arrangement}
use Rattle.rules.proofs.SeriesLaws.{offsets-size, counts-size, compared-size}
use Rattle.series_twice.specs.declared.Kind.{Kind}
use Rattle.series_twice.specs.Kinds.{order_by}
use Rattle.series_twice.specs.Demand.{packed_answer, Given, Demanded}

-- the packed answer of an accepted call is the pixel-by-pixel one
packed-is : (preferred : List Offset) (S : Settings) (F : List ℕ) (number : ℕ) (offsets offsets' : List ℤ) (counts counts' compared compared' : List ℕ) → number ≡ 0
    → offsets' ≡ buffer_after number (series_answer preferred S F).offsets offsets
    → counts' ≡ buffer_after number (series_answer preferred S F).counts counts
    → compared' ≡ buffer_after number (series_answer preferred S F).compared compared
    → packed_answer S offsets' counts' compared' ≡ series_answer preferred S F
packed-is preferred S F number offsets offsets' counts counts' compared compared' z a b c =
    let p = buffer-part number (2 * S.frames) (series_answer preferred S F).offsets offsets offsets' z (offsets-size preferred S F) a in
    let q = buffer-part number (9 * (S.halvings + 1) * (S.frames - 1)) (series_answer preferred S F).counts counts counts' z (counts-size preferred S F) b in
    let r = buffer-part number (9 * (S.halvings + 1) * (S.frames - 1)) (series_answer preferred S F).compared compared compared' z (compared-size preferred S F) c in
    λ i. record { offsets = p i; counts = q i; compared = r i }

-- an order of the nine, by its places
pub record Arranged (preferred : List Offset) : Type 0 where
  pub places : List ℕ
  pub fits : Arrangement places
  pub is : arranged places ≡ preferred

order-arranged : (order : Order) → Arranged (order_of order)
order-arranged Order.LeastMove = record { places = least_move_places; fits = least-move-arrangement; is = refl }
order-arranged Order.Ward = record { places = ward_places; fits = ward-arrangement; is = refl }

pub kind-arranged : (kind : Kind) → Arranged (order_by kind)
kind-arranged (Kind.Tolerance order tolerance) = order-arranged order
kind-arranged (Kind.Band band) = order-arranged Order.LeastMove

-- Two calls: for F, and for F'.
module _ (preferred : List Offset) (nine : Arranged preferred) (S : Settings) (F F' : List ℕ) (offsets1 offsets2 out1 out2 : List ℤ) (counts1 counts2 made1 made2 : List ℕ)
    (compared1 compared2 told1 told2 grey1 grey1' grey2 grey2' words1 words1' words2 words2' : List ℕ) (answer1 answer2 : Result ⊤ ℕ)
    (bytes : Bytes F) (bytes' : Bytes F')
    (one : SeriesCall preferred S F offsets1 out1 counts1 made1 compared1 told1 grey1 grey1' words1 words1' answer1)
    (two : SeriesCall preferred S F' offsets2 out2 counts2 made2 compared2 told2 grey2 grey2' words2 words2' answer2)
    (g : Given S F F' offsets1 offsets2 counts1 counts2 compared1 compared2 grey1 grey2 words1 words2) where
  zero2 : series_number S F' offsets2 counts2 compared2 grey2 words2 ≡ 0
  zero2 = rw (g.raster_bytes, g.offset_room, g.count_room, g.compared_room, g.grey_memory, g.word_memory) g.accepted

  packed1 : packed_answer S out1 made1 told1 ≡ series_answer preferred S F
  packed1 = packed-is preferred S F (series_number S F offsets1 counts1 compared1 grey1 words1) offsets1 out1 counts1 made1 compared1 told1 g.accepted one.offsets_are one.counts_are one.compared_are

  packed2 : packed_answer S out2 made2 told2 ≡ series_answer preferred S F'
  packed2 = packed-is preferred S F' (series_number S F' offsets2 counts2 compared2 grey2 words2) offsets2 out2 counts2 made2 compared2 told2 zero2 two.offsets_are two.counts_are two.compared_are

  ok : SeriesOk S.w S.h S.halvings S.exclusion S.frames S.reference S.percentiles (length F) (length offsets1) (length counts1) (length compared1) (length grey1) (length words1)
  ok =
      series-ok S.w S.h S.halvings S.exclusion S.frames S.reference S.percentiles
      (length F) (length offsets1) (length counts1) (length compared1) (length grey1) (length words1) g.accepted

  sound : Sound S
  sound = record { reference = ok.reference; percentile = λ k l. let p = ok.percentile k (omega arith) in (let m = p.least in omega arith, let m = p.most in omega arith) }

  by_order : EachByOrder (rule_of S.exclusion) S
  by_order k l = setting-by-order S.exclusion (get_or S.percentiles k 0) g.tolerance (ok.percentile k (omega arith))

  alike : Alike preferred (rule_of S.exclusion) S F F'
  alike =
      subst (λ (order : List Offset). Alike order (rule_of S.exclusion) S F F') nine.is
      (demand3 nine.places nine.fits (rule_of S.exclusion) S F F' sound by_order bytes bytes' g.alike)

  same : series_answer preferred S F ≡ series_answer preferred S F'
  unfolding series_answer
  same = alike.same

  near : Bounded S (series_answer preferred S F)
  unfolding series_answer
  near = alike.bound

  near' : Bounded S (series_answer preferred S F')
  unfolding series_answer
  near' = alike.bound'

  pub demanded : Demanded preferred S F' answer2 (packed_answer S out1 made1 told1) (packed_answer S out2 made2 told2)
  demanded = record {
    accepted = two.answered ∙ ap written zero2;
    same = packed1 ∙ same ∙ sym packed2;
    pixels = packed1 ∙ same;
    pixels' = packed2;
    bound = subst (Bounded S) (sym packed1) near;
    bound' = subst (Bounded S) (sym packed2) near';
  }
