use Rattle.std.proofs.Common.{take}
use Rattle.hessian_graph.specs.Moving.{AllMoved}
use Rattle.hessian_graph.proofs.rebuild.move_nodes.Given as goal

-- the nodes so far are moved
abbrev pub invariant-loop-number : goal.invariant-loop-number
invariant-loop-number l = AllMoved l.parts l.names l.walk.order.items (take l.number-index l.order) l.nodes.items
