use Rattle.dubbo_bodies.proofs.Goes.{GoesTo}
use Rattle.dubbo_bodies.proofs.descriptor.counted.Given as goal

abbrev pub invariant-loop-at : goal.invariant-loop-at
invariant-loop-at l = GoesTo l.desc l.at l.stage l.count
