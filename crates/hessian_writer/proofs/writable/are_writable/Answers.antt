use Rattle.hessian_writer.proofs.writable.are_writable.Goals as goal
use Rattle.std.proofs.Common.{◌≡◌, get_or, ◌∙◌, ap, arith, length, ◌<◌, ◌≤◌, ◌^◌, List, Bool, true, false, refl, subst}
use Rattle.std.proofs.lemmas.List.{get_or_default}
use Rattle.hessian_graph.specs.declared.node.Node.{Node}
use Rattle.hessian_graph.specs.Shape.{no_vertex}
use Rattle.hessian_writer.proofs.Shortness.{one_more_short, all_short, not_writable}

never : ◌≡◌ {A = Bool} false true → ⊥
never e = cc

pub loop-node-preserved : goal.loop-node-preserved
loop-node-preserved c =
    let node : c.node-item.result ≡ get_or c.args.parts.now.nodes c.loop-node.node-index no_vertex =
    c.node-item.is ∙ get_or_default c.as_slice-nodes.result.now c.loop-node.node-index c.node-item.result no_vertex c.loop-node-test.true ∙ ap (λ (ns : List Node). get_or ns c.loop-node.node-index no_vertex) c.as_slice-nodes.ensures in
    one_more_short c.args.parts.now c.loop-node.node-index c.node-item.result c.loop-node.invariant node (c.if-not-is_short.ensures.0 refl)

pub returns-then-not-is_short : goal.returns-then-not-is_short
returns-then-not-is_short c =
    let node : c.node-item.result ≡ get_or c.args.parts.now.nodes c.loop-node.node-index no_vertex =
    c.node-item.is ∙ get_or_default c.as_slice-nodes.result.now c.loop-node.node-index c.node-item.result no_vertex c.loop-node-test.true ∙ ap (λ (ns : List Node). get_or ns c.loop-node.node-index no_vertex) c.as_slice-nodes.ensures in
    let within : c.loop-node.node-index < length c.args.parts.now.nodes = subst (λ (ns : List Node). c.loop-node.node-index < length ns) c.as_slice-nodes.ensures c.loop-node-test.true in
    (λ t. absurd (never t), λ w. absurd (not_writable c.args.parts.now c.loop-node.node-index c.node-item.result within node (λ s. never (c.if-not-is_short.ensures.1 s)) w))

pub returns : goal.returns
returns c =
    let few : length c.as_slice-nodes.result.now < 2 ^ 31 = omega (arith, c.if-nodes-ge-TOO_MANY.false) in (
      λ t. all_short c.args.parts.now c.loop-node.node-index
          (subst (λ (ns : List Node). length ns < 2 ^ 31) c.as_slice-nodes.ensures few)
          (subst (λ (ns : List Node). length ns ≤ c.loop-node.node-index) c.as_slice-nodes.ensures c.loop-node-test.false)
          c.loop-node.invariant,
      λ w. refl,
    )
