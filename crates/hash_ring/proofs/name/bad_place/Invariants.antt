use Rattle.hash_ring.proofs.Naming.{IsNameUpTo}
use Rattle.hash_ring.proofs.name.bad_place.Given as goal

abbrev pub invariant-loop-at : goal.invariant-loop-at
invariant-loop-at l = IsNameUpTo l.name l.at
