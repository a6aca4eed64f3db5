use Rattle.std.proofs.Common.{◌≡◌, drop}
use Rattle.hessian_graph.specs.Faults.{faults_from}
use Rattle.hessian_graph.proofs.check.check_parts.Given as goal

-- the nodes so far have no fault
abbrev pub invariant-loop-node : goal.invariant-loop-node
invariant-loop-node l = record {
  counted : l.number ≡ l.node-index;
  clean : faults_from l.parts 0 l.nodes ≡ faults_from l.parts l.node-index (drop l.node-index l.nodes);
}
