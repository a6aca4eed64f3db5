use Rattle.std.proofs.Common.{◌≡◌, length, arith, ◌∙◌, ap, ◌++◌, ◌∷◌, [], sym}
use Rattle.std.specs.Prelude.{None}
use Rattle.std.proofs.lemmas.List.{length-map}
use Rattle.hessian_graph.specs.Shape.{shape_of, node_shape}
use Rattle.hessian_graph.proofs.Walking.{one_more_none, new_fine}
use Rattle.hessian_graph.proofs.walk.Walk.new.Goals as goal

pub loop-node-preserved : goal.loop-node-preserved
loop-node-preserved c = c.in_ok-push.ensures.items ∙ ap (λ x. x ++ None ∷ []) c.loop-node.invariant ∙ one_more_none c.loop-node._node-index

pub returns-clause-fine : goal.returns-clause-fine
returns-clause-fine c =
    let e0 : c.loop-node._node-index ≡ length c.as_slice-node-items.result.now = omega arith in
    let e : c.loop-node._node-index ≡ length c.args.parts.now.nodes = e0 ∙ ap length c.as_slice-node-items.ensures in
    rw (c.new.ensures.items, c.new-2.ensures.items, c.loop-node.invariant)
    (new_fine (shape_of c.args.parts.now) c.loop-node._node-index (e ∙ sym (length-map c.args.parts.now.nodes (node_shape c.args.parts.now.types c.args.parts.now.classes))))
