use Rattle.hash_ring.specs.Held.{pairs, GrewByAll}
use Rattle.hash_ring.proofs.Growing.{IsPointBelow}
use Rattle.hash_ring.proofs.held.put_points.Given as goal

abbrev pub invariant-loop-round : goal.invariant-loop-round
invariant-loop-round l = GrewByAll (IsPointBelow l.name l.round) (pairs l.initial.points) (pairs l.points)
