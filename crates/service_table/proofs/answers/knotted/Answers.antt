use Rattle.std.proofs.Common.{◌≡◌, ℕ, List, [], ◌∷◌, ◌++◌, length, get_or, sym, ap, ◌∙◌, subst}
use Rattle.hessian_graph.specs.declared.value.Value.{Value}
use Rattle.hessian_graph.specs.declared.value.Value.TheVariants.{Null, Node as ANode}
use Rattle.hessian_graph.specs.declared.node.Class.{Class}
use Rattle.hessian_graph.specs.declared.node.Node.TheVariants.{Object}
use Rattle.hessian_graph.specs.declared.parts.Parts.{Parts}
use Rattle.hessian_graph.specs.Shape.{ObjectKind, shape_of}
use Rattle.service_table.specs.Growing.{CanAdd, grown, with_class}
use Rattle.service_table.specs.Replies.{with_new, knot_class}
use Rattle.service_table.proofs.Grown.{knot_can, knot_grown}
use Rattle.service_table.proofs.Outcomes.{then_ok}
use Rattle.service_table.proofs.answers.knotted.Goals as goal

parts_are : (c : goal.After-from) → c.in_ok-args.args ≡ with_class c.args.args knot_class
parts_are c =
    c.in_ok-args.ensures.more ∙ ap (λ (k : Class). with_class c.into_parts-args.result k) c.in_ok-knot_class.ensures
    ∙ ap (λ (p : Parts). with_class p knot_class) c.into_parts-args.ensures.parts

class_is : (c : goal.After-from) → length c.as_slice-2.result.now ≡ length c.args.args.classes
class_is c = ap (λ (ks : List Class). length ks) (c.as_slice-2.ensures ∙ ap (λ (p : Parts). p.classes) c.into_parts-args.ensures.parts)

values_are : (c : goal.After-from) → c.from.result ≡ ANode (length c.args.args.nodes) ∷ get_or c.args.args.roots 0 Null ∷ []
values_are c =
    let first : c.in_ok-first_of.field-0 ≡ get_or c.args.args.roots 0 Null =
    c.in_ok-first_of.ensures ∙ ap (λ (vs : List Value). get_or vs 0 Null) (c.as_slice-3.ensures ∙ ap (λ (p : Parts). p.roots) c.into_parts-args.ensures.parts) in
    let itself : length c.as_slice.result.now ≡ length c.args.args.nodes =
    ap (λ ns. length ns) c.as_slice.ensures ∙ ap (λ (p : Parts). length p.nodes) c.into_parts-args.ensures.parts in
    c.from.ensures ∙ c.in_ok-push-2.ensures.items ∙ ap (λ (vs : List Value). vs ++ c.in_ok-first_of.field-0 ∷ []) (c.in_ok-push.ensures.items
    ∙ ap (λ (vs : List Value). vs ++ ANode (length c.as_slice.result.now) ∷ []) c.in_ok-values.ensures.items)
    ∙ ap (λ n. ANode n ∷ c.in_ok-first_of.field-0 ∷ []) itself ∙ ap (λ v. ANode (length c.args.args.nodes) ∷ v ∷ []) first

pub with_new-requires-clause-can : goal.with_new-requires-clause-can
with_new-requires-clause-can c =
    subst (λ (p : Parts). CanAdd p (Object (length c.as_slice-2.result.now) c.from.result)) (sym (parts_are c))
    (subst (λ (n : ℕ). CanAdd (with_class c.args.args knot_class) (Object n c.from.result)) (sym (class_is c))
    (subst (λ (vs : List Value). CanAdd (with_class c.args.args knot_class) (Object (length c.args.args.classes) vs)) (sym (values_are c))
    (knot_can c.args.args c.into_parts-args.ensures.sound c.into_parts-args.ensures.few)))

pub returns : goal.returns
returns c =
    let itself : Value = ANode (length c.args.args.nodes) in
    let is : grown c.in_ok-args.args (Object (length c.as_slice-2.result.now) c.from.result) ≡ with_new (ObjectKind knot_class) (itself ∷ get_or c.args.args.roots 0 Null ∷ []) (shape_of c.args.args) =
    ap (λ (p : Parts). grown p (Object (length c.as_slice-2.result.now) c.from.result)) (parts_are c.before)
    ∙ ap (λ (n : ℕ). grown (with_class c.args.args knot_class) (Object n c.from.result)) (class_is c.before)
    ∙ ap (λ (vs : List Value). grown (with_class c.args.args knot_class) (Object (length c.args.args.classes) vs)) (values_are c.before)
    ∙ knot_grown c.args.args c.into_parts-args.ensures.sound in
    then_ok c.with_new.result (λ g h. h ∙ is) c.with_new.ensures
