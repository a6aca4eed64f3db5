use Rattle.std.proofs.Common.{◌≡◌, drop}
use Rattle.std.specs.List.{flat_map}
use Rattle.hessian_graph.specs.Faults.{value_faults}
use Rattle.hessian_graph.specs.Shape.{alternately}
use Rattle.hessian_graph.proofs.check.check_pairs.Given as goal

-- the pairs so far have no fault
abbrev pub invariant-loop-pair : goal.invariant-loop-pair
invariant-loop-pair l = flat_map (value_faults l.count) (alternately l.pairs) ≡ flat_map (value_faults l.count) (alternately (drop l.pair-index l.pairs))
