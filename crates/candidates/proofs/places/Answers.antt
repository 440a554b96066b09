-- Each of the two orders has the nine places, each once.
use Rattle.rules.proofs.LevelLaws.{ward-arrangement, least-move-arrangement}
use Rattle.candidates.proofs.places.Goals as goal
use Rattle.candidates.proofs.places.Goals.{in-LeastMove, in-Ward}

pub invariant_of-result : goal.invariant_of-result
invariant_of-result c =
    elim c.match-order.branch [
      | in-LeastMove w ↦ rw w.places-is (record { each_once = least-move-arrangement })
      | in-Ward w ↦ rw w.places-is (record { each_once = ward-arrangement })
    ]
