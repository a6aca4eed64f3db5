use Rattle.std.proofs.Common.{◌≤◌, ◌-◌, length}
use Rattle.hessian_graph.specs.Shape.{kind_of, values_of}
use Rattle.graph_notation.specs.PrintedLeaves.{PrintsLeaves}
use Rattle.graph_notation.specs.Pressing.{before}
use Rattle.graph_notation.proofs.leaves.write_entries.Given as goal

-- the values before the place are printed
abbrev pub invariant-loop-value : goal.invariant-loop-value
invariant-loop-value l = record {
  further : l.start ≤ l.at;
  written : PrintsLeaves (before (kind_of l.parts.types l.parts.classes l.node)) (values_of l.node) l.begun l.initial.out.items l.start l.at l.out.items;
}

abbrev pub decreases-loop-value : goal.decreases-loop-value
decreases-loop-value l = length (values_of l.node) - l.at
