-- Laws of the candidates of a column.
use mathlib.Core.Path.{◌≡◌, sym, ap, ◌∙◌}
use Prim.Native.Nat.{ℕ, ◌+◌, ◌*◌, ◌/◌, ◌%◌, ◌<◌}
use native.Mathlib.Omega.{arith}
use lib.IntN.{◌+ℤ◌}
use mir.Syntax.{w32}
use mir.Val.{to_z, of_z}
use Rattle.rules.specs.Limits.{max_centre, max_candidate}
use Rattle.rules.specs.declared.Offset.{Offset}
use Rattle.rules.proofs.OffsetLaws.{near_add}
use Rattle.rules.specs.Levels.{candidate_at, step_of, Near}
use Rattle.rules.proofs.LevelLaws.{candidate-is}
use Rattle.rules.proofs.SignedLaws.{bits_are}
use Rattle.candidates.proofs.StepLaws.{step-near}

pub candidate-near : (centre : Offset) (k : ℕ) → k < 9 → Near max_centre centre → Near max_candidate (candidate_at centre k)
candidate-near centre k l near =
    let step : Offset = record { dx = step_of (k / 3); dy = step_of (k % 3) } in
    let small : Near 1 step = record { dx = step-near (k / 3); dy = step-near (k % 3) } in
    rw (candidate-is centre k l) (near_add max_centre 1 centre step near small)

-- a candidate's dx is small enough to be read back from its bits
pub candidate-dx : (centre m : Offset) (k : ℕ) → k < 9 → Near max_centre centre → m ≡ candidate_at centre k → to_z w32 (of_z w32 m.dx) ≡ (candidate_at centre k).dx
candidate-dx centre m k l near e =
    let n = candidate-near centre k l near in
    ap (λ (o : Offset). to_z w32 (of_z w32 o.dx)) e ∙ bits_are (candidate_at centre k).dx (let a = n.dx in omega arith)

-- the candidates of a column have one dx
pub column-dx : (centre : Offset) (i j : ℕ) → i < 3 → j < 3 → (candidate_at centre (3 * i + j)).dx ≡ (candidate_at centre (3 * i)).dx
column-dx centre i j k l =
    let a : (3 * i + j) / 3 ≡ 3 * i / 3 = omega arith in
    ap (λ (o : Offset). o.dx) (candidate-is centre (3 * i + j) (omega arith))
    ∙ ap (λ (q : ℕ). centre.dx +ℤ step_of q) a
    ∙ sym (ap (λ (o : Offset). o.dx) (candidate-is centre (3 * i) (omega arith)))
