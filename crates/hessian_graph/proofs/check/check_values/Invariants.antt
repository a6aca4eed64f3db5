use Rattle.std.proofs.Common.{◌≡◌, drop}
use Rattle.std.specs.List.{flat_map}
use Rattle.hessian_graph.specs.Faults.{value_faults}
use Rattle.hessian_graph.proofs.check.check_values.Given as goal

-- the values so far have no fault
abbrev pub invariant-loop-value : goal.invariant-loop-value
invariant-loop-value l = flat_map (value_faults l.count) l.values ≡ flat_map (value_faults l.count) (drop l.value-index l.values)
