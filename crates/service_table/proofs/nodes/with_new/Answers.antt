use Rattle.std.proofs.Common.{◌≡◌, List, [], ◌∷◌, ◌++◌, length, sym, ap, ◌∙◌, subst, arith}
use Rattle.hessian_graph.specs.declared.value.Value.{Value}
use Rattle.hessian_graph.specs.declared.value.Value.TheVariants.{Node as ANode}
use Rattle.hessian_graph.specs.declared.node.Node.{Node}
use Rattle.hessian_graph.specs.Faults.{IsSound}
use Rattle.service_table.proofs.Grown.{node_sound}
use Rattle.service_table.proofs.nodes.with_new.Goals as goal

pub from_sound-requires-clause-sound : goal.from_sound-requires-clause-sound
from_sound-requires-clause-sound c =
    let few = c.requires.few in
    let number : length c.as_slice.result.now ≡ length c.args.args.nodes = ap (λ (ns : List Node). length ns) c.as_slice.ensures in
    let ns : c.from-2.result ≡ c.args.args.nodes ++ c.args.node ∷ [] = c.from-2.ensures ∙ c.in_ok-push.ensures.items ∙ ap (λ (xs : List Node). xs ++ c.args.node ∷ []) c.into_inner-nodes.ensures in
    let roots : c.from.result ≡ ANode (length c.args.args.nodes) ∷ [] =
    c.from.ensures ∙ c.in_ok-push-2.ensures.items ∙ ap (λ (vs : List Value). vs ++ ANode (length c.as_slice.result.now) ∷ []) c.in_ok-roots.ensures.items ∙ ap (λ n. ANode n ∷ []) number in
    subst (λ (vs : List Value). IsSound (record c.args.args { roots = vs; nodes = c.from-2.result })) (sym roots)
    (subst (λ (xs : List Node). IsSound (record c.args.args { roots = ANode (length c.args.args.nodes) ∷ []; nodes = xs })) (sym ns)
    (node_sound c.args.args c.args.node c.requires.sound (omega (arith, few)) c.requires.can))
