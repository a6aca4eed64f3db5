use Rattle.std.proofs.Common.{ℕ, ◌<◌, get_or}
use Rattle.std.specs.Prelude.{All}
use Rattle.hessian_graph.specs.declared.node.Node.{Node}
use Rattle.hessian_graph.specs.Shape.{values_of}
use Rattle.hessian_writer.specs.Carried.{IsCarriedValue}
use Rattle.hessian_writer.proofs.carried.nodes_are_carried.Given as goal

abbrev pub invariant-loop-node : goal.invariant-loop-node
invariant-loop-node l = (k : ℕ) (d : Node) → k < l.node-index → All IsCarriedValue (values_of (get_or l.nodes k d))
