use Rattle.std.proofs.Common.{◌∙◌, ap, sym, subst, List, ℕ}
use Rattle.std.specs.Prelude.{map}
use Rattle.hessian_graph.specs.declared.node.Node.{Node}
use Rattle.hessian_graph.specs.declared.parts.Parts.{Parts}
use Rattle.hessian_graph.specs.Shape.{shape_of}
use Rattle.hessian_graph.specs.Canon.{renumbered}
use Rattle.hessian_graph.specs.Moving.{AllThere, AllMoved, TablesRise}
use Rattle.hessian_graph.specs.InUse.{InOrderOfUse}
use Rattle.hessian_graph.proofs.Uses.{in_use}
use Rattle.hessian_graph.proofs.Rebuilding.{form_shape, all_there}
use Rattle.hessian_graph.proofs.rebuild.rebuild.Goals as goal

pub returns-clause-shape : goal.returns-clause-shape
returns-clause-shape c =
    ap shape_of c.into_parts.ensures
    ∙ form_shape c.args.parts.now c.in_ok-names.names c.args.walk.now.order.items c.from-roots.result c.from-nodes.result
    (c.from-roots.ensures ∙ c.in_ok-moved_roots.ensures ∙ ap (map (renumbered c.args.walk.now.order.items)) c.as_slice-old_roots.ensures)
    (subst (λ (ns : List Node). AllMoved c.args.parts.now c.in_ok-names.names c.args.walk.now.order.items c.args.walk.now.order.items ns) (sym c.from-nodes.ensures)
    (subst (λ (os : List ℕ). AllMoved c.args.parts.now c.in_ok-names.names c.args.walk.now.order.items os c.in_ok-moved_nodes.moved_nodes.items) c.as_slice-order.ensures.value c.in_ok-moved_nodes.ensures))

pub returns-clause-there : goal.returns-clause-there
returns-clause-there c =
    subst (λ (p : Parts). AllThere p.types p.classes p.nodes) (sym c.into_parts.ensures)
    (all_there c.args.parts.now c.in_ok-names.names c.args.walk.now.order.items c.args.walk.now.order.items c.from-nodes.result
    (subst (λ (ns : List Node). AllMoved c.args.parts.now c.in_ok-names.names c.args.walk.now.order.items c.args.walk.now.order.items ns) (sym c.from-nodes.ensures)
    (subst (λ (os : List ℕ). AllMoved c.args.parts.now c.in_ok-names.names c.args.walk.now.order.items os c.in_ok-moved_nodes.moved_nodes.items) c.as_slice-order.ensures.value c.in_ok-moved_nodes.ensures)))

pub returns-clause-tables : goal.returns-clause-tables
returns-clause-tables c =
    subst InOrderOfUse (sym c.into_parts.ensures)
    (in_use c.args.parts.now c.in_ok-names.names c.args.walk.now.order.items c.from-roots.result c.from-nodes.result c.in_ok-names.ensures.fit
    (subst (TablesRise c.args.parts.now c.in_ok-names.names) c.as_slice-order.ensures.value c.in_ok-names.ensures.rise)
    (subst (λ (ns : List Node). AllMoved c.args.parts.now c.in_ok-names.names c.args.walk.now.order.items c.args.walk.now.order.items ns) (sym c.from-nodes.ensures)
    (subst (λ (os : List ℕ). AllMoved c.args.parts.now c.in_ok-names.names c.args.walk.now.order.items os c.in_ok-moved_nodes.moved_nodes.items) c.as_slice-order.ensures.value c.in_ok-moved_nodes.ensures)))
