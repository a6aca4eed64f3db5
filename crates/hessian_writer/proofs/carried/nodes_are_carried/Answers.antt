use Rattle.std.proofs.Common.{arith}
use Rattle.std.specs.Prelude.{All}
use Rattle.hessian_graph.specs.declared.node.Node.{Node}
use Rattle.hessian_graph.specs.Shape.{values_of, no_vertex}
use Rattle.hessian_writer.specs.Carried.{IsCarriedValue}
use Rattle.hessian_writer.proofs.Carrying.{one_more}
use Rattle.hessian_writer.proofs.carried.nodes_are_carried.Goals as goal

pub loop-node-preserved : goal.loop-node-preserved
loop-node-preserved c = one_more (λ (n : Node). All IsCarriedValue (values_of n)) c.args.nodes.now c.loop-node.node-index c.node-item.result c.loop-node.invariant c.node-item.is c.loop-node-test.true c.node_is_carried.ensures

pub returns : goal.returns
returns c = λ n h. c.loop-node.invariant n no_vertex (let t = c.loop-node-test.false in omega (arith, h, t))
