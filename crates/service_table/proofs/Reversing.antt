-- The list that is turned round can be added to the parts it comes from.
use Rattle.std.proofs.Common.{◌≡◌, ℕ, suc, ◌<◌, ◌^◌, List, length, get_or, reverse, ap, sym, ◌∙◌, subst, arith}
use Rattle.std.specs.Prelude.{Option, Some, All}
use Rattle.std.proofs.lemmas.List.{length-map}
use Rattle.hessian_graph.specs.declared.value.Value.{Value}
use Rattle.hessian_graph.specs.declared.node.Node.TheVariants as nodes
use Rattle.hessian_graph.specs.declared.parts.Parts.{Parts}
use Rattle.hessian_graph.specs.Shape.{Shape, NodeShape, ListKind, no_node, no_vertex, node_of, node_shape, type_of, shape_of, values_at, kind_at}
use Rattle.hessian_graph.specs.Faults.{IsSound}
use Rattle.hessian_graph.specs.Moving.{NamesThere}
use Rattle.hessian_graph.specs.Work.{NamesBelow}
use Rattle.hessian_graph.proofs.Closed.{closed_of}
use Rattle.hessian_graph.proofs.Rebuilding.{there_of, shape_at}
use Rattle.service_table.specs.Growing.{AddsAs}
use Rattle.service_table.specs.Replies.{first_of, with_new, reversed, reversed_node, reversed_kind}
use Rattle.service_table.proofs.Closed.{more_below, reverse_below}

pub reversed_adds : (p : Parts) (number : ℕ) (t : Option ℕ) (items : List Value) → IsSound p → length p.nodes < 2 ^ 32 → node_of (first_of (shape_of p)) ≡ Some number → number < length p.nodes → nodes.List t items ≡ get_or p.nodes number no_vertex → AddsAs p (reversed (shape_of p)) (nodes.List t (reverse items))
reversed_adds p number t items sound few named within is =
    let g : Shape = shape_of p in
    let count : length g.nodes ≡ length p.nodes = length-map p.nodes (node_shape p.types p.classes) in
    let at : get_or g.nodes number no_node ≡ node_shape p.types p.classes (nodes.List t items) = shape_at p number ∙ ap (node_shape p.types p.classes) (sym is) in
    let kind : kind_at g number ≡ ListKind (type_of p.types t) = ap (λ (x : NodeShape). x.kind) at in
    let vs : values_at g number ≡ items = ap (λ (x : NodeShape). x.values) at in
    let there : NamesThere p.types p.classes (nodes.List t items) = subst (NamesThere p.types p.classes) (sym is) (there_of p sound number within) in
    let old : All (NamesBelow (length p.nodes)) items = subst (λ n. All (NamesBelow n) items) count (subst (All (NamesBelow (length g.nodes))) vs ((closed_of p sound few).each number (omega (arith, within, count)))) in
    record {
      can = record { there = there; below = reverse_below (suc (length p.nodes)) items (more_below (length p.nodes) (suc (length p.nodes)) (omega arith) items old) };
      is = sym (ap (λ o. reversed_node o g) named ∙ ap (λ k. reversed_kind k number g) kind ∙ ap (λ xs. with_new (ListKind (type_of p.types t)) (reverse xs) g) vs);
    }
