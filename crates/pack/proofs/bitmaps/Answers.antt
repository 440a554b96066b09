-- A frame of the words of "outside an interval" is the packed plane of the rule.
use Rattle.std.proofs.Common.{ℕ, ◌<◌, get_or, refl, sym, ◌∙◌, arith}
use mathlib.Core.Path.{ap₂}
use Rattle.rules.proofs.RefusalLaws.{bitmaps-ok}
use Rattle.pack.specs.Outside.{outside_plane}
use Rattle.pack.proofs.OutsideLaws.{threshold-plane, exclusion-plane, packed-plane}
use Rattle.pack.proofs.bitmaps.Goals as goal

pub pack_frame-requires : goal.pack_frame-requires
pack_frame-requires c =
    let a = c.args in
    let k = bitmaps-ok a.w a.h a.tolerance _ _ _ (sym c.in_ok-bitmaps_refusal.ensures) in
    omega arith

pub returns : goal.returns
returns c =
    let a = c.args in
    let k = bitmaps-ok a.w a.h a.tolerance _ _ _ (sym c.in_ok-bitmaps_refusal.ensures) in
    let ends = ap₂ (λ (lo hi : ℕ). outside_plane lo hi a.w a.grey.now) (sym c.low_end-lo.ensures) (sym c.high_end-hi.ensures) in
    let bytes : (i : ℕ) → get_or a.grey.now i 0 < 256 = λ i. (c.type_inv.grey i).fits in
    let f = c.pack_frame in
    rw (← c.in_ok-bitmaps_refusal.ensures) (record {
      answered = refl;
      thresholds_are = packed-plane a.w a.h _ _ a.thresholds.now f.new.thresholds (threshold-plane a.threshold a.w a.grey.now) k.room1 f.ensures.frame_at;
      exclusions_are =
          packed-plane a.w a.h _ _ a.exclusions.now f.new.exclusions (exclusion-plane a.threshold a.tolerance a.w a.grey.now bytes ∙ ends) k.room2 f.ensures.frame_at_2;
    })
