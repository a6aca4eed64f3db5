use Rattle.std.proofs.Common.{◌-◌, ◌≤◌, length, drop}
use Rattle.hessian_graph.specs.Shape.{values_of}
use Rattle.hessian_writer.specs.Course.{values_then}
use Rattle.hessian_writer.specs.Running.{WritesOver}
use Rattle.hessian_writer.proofs.run.write_run.Given as goal

-- the values so far are written
abbrev pub invariant-loop-value : goal.invariant-loop-value
invariant-loop-value l = record {
  after : l.fn.from ≤ l.at;
  over : WritesOver l.fn.out.items (values_then (drop l.fn.from (values_of l.node))) l.out.items (values_then (drop l.at (values_of l.node)));
}

abbrev pub decreases-loop-value : goal.decreases-loop-value
decreases-loop-value l = length (values_of l.node) - l.at
