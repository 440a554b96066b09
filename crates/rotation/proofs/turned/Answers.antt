-- Each pair by its own test.
use Rattle.rotation.proofs.TurnLaws.{four-turned}
use Rattle.rotation.proofs.turned.Goals as goal

pub returns : goal.returns
returns c =
    let a = c.args in
    rw (c.differing.ensures, c.differing-2.ensures, c.differing-3.ensures, c.differing-4.ensures, c.differing-5.ensures, c.differing-from_c.ensures)
    (four-turned a.a a.b a.c a.d)
