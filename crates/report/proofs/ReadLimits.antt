-- How much of its input `bracket` has to read: a longer standard input, and longer files, print nothing else.
use mathlib.Core.Path.{◌≡◌}
use mathlib.Core.Logic.{⊎_elim}
use mathlib.Core.Bool.{false, cond}
use mathlib.Core.List.{List, []}
use Prim.Native.Nat.{ℕ, ◌≤◌, ◌<◌}
use native.Mathlib.Omega.{arith}
use lib.Dec.{leb}
use lib.ListN.{length, take, length-take}
use lib.Seq.{take_all}
use borrow.Author.Tests.{lt-leb}
use Rattle.rules.proofs.SumLaws.{order}
use Rattle.text.specs.Digits.{leading}
use Rattle.settings_line.proofs.LineLimit.{in_line, settings-ended, settings-within}
use Rattle.report.specs.Output.{as_read, bracket_output}

-- One byte more than the most that is read tells that a file is longer.
pub file-within : (file : List ℕ) → as_read (take 65537 file) ≡ as_read file
unfolding as_read
file-within file = ⊎_elim short long (order (length file) 65537)
  where
    short : length file < 65537 → cond (leb (length (take 65537 file)) 65536) (take 65537 file) [] ≡ cond (leb (length file) 65536) file []
    short l = let e : take 65537 file ≡ file = take_all 65537 file (omega arith) in rw e

    long : 65537 ≤ length file → cond (leb (length (take 65537 file)) 65536) (take 65537 file) [] ≡ cond (leb (length file) 65536) file []
    long l =
        let a : leb (length (take 65537 file)) 65536 ≡ false = lt-leb (length (take 65537 file)) 65536 (let b = length-take 65537 file in omega arith) in
        let c : leb (length file) 65536 ≡ false = lt-leb (length file) 65536 (omega arith) in
        rw (a, c)

pub output-within : (input first second : List ℕ)
    → bracket_output (take 30 input) (take 65537 first) (take 65537 second) ≡ bracket_output input first second
unfolding bracket_output
output-within input first second = rw (settings-within input, file-within first, file-within second)

-- nor does a settings line need more than is up to its byte 10
pub line-within : (input first second : List ℕ) (m : ℕ) → leading in_line input < m → bracket_output (take m input) first second ≡ bracket_output input first second
unfolding bracket_output
line-within input first second m l = rw (settings-ended input m l)
