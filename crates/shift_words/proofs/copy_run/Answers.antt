-- Each word is interior to all rows taken as one, and a word that is copied is one that was joined from it alone.
use Rattle.std.proofs.Common.{ℕ, ◌≡◌, ◌+◌, ◌*◌, ◌-◌, ◌∙◌, length, get_or, refl, arith}
use Rattle.std.proofs.lemmas.Grind.{common_steps}
use Rattle.words.specs.MovedRows.{moved_word}
use Rattle.words.proofs.JoinLaws.{joined-zero}
use Rattle.words.proofs.MovedRowLaws.{interior-moved}
use Rattle.words.proofs.PartLaws.{row-put}
use Rattle.shift_words.specs.MovedParts.{from_word}
use Rattle.shift_words.proofs.MovedPartLaws.{run_inside, run_fits}
use Rattle.shift_words.proofs.copy_run.Goals as goal

pub slice_bounds-source-end : goal.slice_bounds-source-end
slice_bounds-source-end c =
    let a = c.args in
    let s = run_fits a.m a.h a.first a.end a.from (length a.src.now) a.to (length a.dst.now) c.requires.run in
    omega (arith, s)

pub returns : goal.returns
returns c =
    let a = c.args in
    let m = a.m in
    let run = c.requires.run in
    let s = run_fits m a.h a.first a.end a.from (length a.src.now) a.to (length a.dst.now) run in
    let w : ℕ = m.n * a.h * 64 in
    let n : a.to + a.end - (a.to + a.first) ≡ a.end - a.first = omega arith in
    rw n (row-put (a.to + a.first) (a.end - a.first) (from_word a.first (moved_word a.src.now a.from w m.q m.r)) a.dst.now c.copy_from_slice.new.self
    (grind (arith, common_steps)) (omega (arith, s))
    (λ k l.
    let j : ℕ = a.from + (a.first + k) + 33554432 - m.q in
    grind (arith, common_steps) ∙
    interior-moved a.src.now a.from w m.q m.r (a.first + k) j (get_or a.src.now j 0) (c.type_inv.src j).fits m.moves.bits
    (run_inside m a.h (a.first + k) run.some.0 run.some.1 (omega arith) (omega arith)) refl
    (rw c.requires.bits (joined-zero (get_or a.src.now j 0) (get_or a.src.now (j - 1) 0)))))
