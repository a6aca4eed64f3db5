use Rattle.hash_ring.specs.Held.{pairs, GrewByAll, IsPointIn}
use Rattle.hash_ring.proofs.held.put_round.Given as goal

abbrev pub invariant-loop-quarter : goal.invariant-loop-quarter
invariant-loop-quarter l = GrewByAll (IsPointIn l.name l.round l.quarter) (pairs l.initial.points) (pairs l.points)
