use Rattle.hash_ring.proofs.Holding.{no_names, no_points}
use Rattle.hash_ring.proofs.ring.Ring.new.Goals as goal

pub invariant_of-result : goal.invariant_of-result
invariant_of-result c = record {
  names = rw c.new.ensures.empty no_names;
  points = rw (c.new.ensures.empty, c.new-2.ensures.empty) no_points;
}
