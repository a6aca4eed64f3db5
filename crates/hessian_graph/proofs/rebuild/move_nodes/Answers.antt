use Rattle.std.proofs.Common.{◌≡◌, sym, subst, ℕ, List, ◌++◌, ◌∷◌, [], get_or, length, take, ◌+◌}
use Rattle.std.specs.Prelude.{All}
use Rattle.std.proofs.lemmas.List.{take_more}
use Rattle.hessian_graph.specs.declared.node.Node.{Node}
use Rattle.hessian_graph.specs.Shape.{no_vertex, shape_of, values_of}
use Rattle.hessian_graph.specs.Work.{NamesBelow}
use Rattle.hessian_graph.specs.Moving.{AllMoved, IsMoved}
use Rattle.hessian_graph.proofs.Rebuilding.{one_moved, node_values_below}
use Rattle.hessian_graph.proofs.rebuild.move_nodes.Goals as goal

pub move_node-requires-clause-below : goal.move_node-requires-clause-below
move_node-requires-clause-below c =
    subst (λ (n : Node). All (NamesBelow (length (shape_of c.args.parts.now).nodes)) (values_of n)) (sym c.node_at-node.ensures)
    (node_values_below c.args.parts.now (get_or c.args.order.now c.loop-number.number-index 0) c.requires.closed (c.requires.nodes c.loop-number.number-index c.loop-number-test.true))

pub loop-number-preserved : goal.loop-number-preserved
loop-number-preserved c =
    let i : ℕ = get_or c.args.order.now c.loop-number.number-index 0 in
    let moved : IsMoved c.args.parts.now c.args.names.now c.args.walk.now.order.items (get_or c.args.parts.now.nodes i no_vertex) c.in_ok-copy.copy = subst (λ (n : Node). IsMoved c.args.parts.now c.args.names.now c.args.walk.now.order.items n c.in_ok-copy.copy) c.node_at-node.ensures c.in_ok-copy.ensures in
    let cut : take (c.loop-number.number-index + 1) c.args.order.now ≡ take c.loop-number.number-index c.args.order.now ++ i ∷ [] = take_more c.args.order.now c.loop-number.number-index 0 c.loop-number-test.true in
    subst (λ (xs : List ℕ). AllMoved c.args.parts.now c.args.names.now c.args.walk.now.order.items xs c.push.new.self.items) (sym cut)
    (subst (λ (ns : List Node). AllMoved c.args.parts.now c.args.names.now c.args.walk.now.order.items (take c.loop-number.number-index c.args.order.now ++ i ∷ []) ns) (sym c.in_ok-push.ensures.items)
    (one_moved c.args.parts.now c.args.names.now c.args.walk.now.order.items (take c.loop-number.number-index c.args.order.now) c.loop-number.nodes.items i c.in_ok-copy.copy c.loop-number.invariant moved))
