-- Parts stay sound where a root, a node or a class is put in.
use Rattle.std.proofs.Common.{◌≡◌, ℕ, suc, ◌+◌, ◌<◌, ◌≤◌, ◌^◌, List, [], ◌∷◌, ◌++◌, length, get_or, refl, ap, sym, ◌∙◌, subst, arith, inl, inr, length-append}
use Rattle.std.specs.Prelude.{All, map}
use Rattle.std.specs.List.{flat_map}
use Rattle.std.proofs.lemmas.Bool.{cases_lt}
use Rattle.std.proofs.lemmas.List.{length-map, map-append}
use Rattle.hessian_graph.specs.declared.value.Value.{Value}
use Rattle.hessian_graph.specs.declared.value.Value.TheVariants as values
use Rattle.hessian_graph.specs.declared.node.Node.{Node}
use Rattle.hessian_graph.specs.declared.node.Node.TheVariants as nodes
use Rattle.hessian_graph.specs.declared.node.Class.{Class}
use Rattle.hessian_graph.specs.declared.parts.Parts.{Parts}
use Rattle.hessian_graph.specs.Shape.{Text, NodeShape, node_shape, kind_of, values_of, shape_of, no_vertex, no_class, ObjectKind}
use Rattle.hessian_graph.specs.Canon.{Rises, class_number}
use Rattle.hessian_graph.specs.Faults.{IsSound}
use Rattle.hessian_graph.specs.InUse.{InOrderOfUse}
use Rattle.hessian_graph.specs.Moving.{NamesThere, AllThere}
use Rattle.hessian_graph.specs.Work.{NamesBelow, IsClosed}
use Rattle.hessian_graph.proofs.Closed.{closed_of}
use Rattle.hessian_graph.proofs.Rebuilding.{there_of, sound_of}
use Rattle.hessian_graph.proofs.TableSteps.{front_get, last_get}
use Rattle.service_table.specs.Growing.{CanAdd, grown, with_class}
use Rattle.service_table.specs.Replies.{with_new, knot_class}
use Rattle.service_table.proofs.Closed.{first_closed, new_closed, more_below, first_below, two_below, node_below}

-- the values of parts name nodes of them
pub roots_below : (p : Parts) → IsSound p → length p.nodes < 2 ^ 32 → All (NamesBelow (length p.nodes)) p.roots
roots_below p sound few = subst (λ n. All (NamesBelow n) p.roots) (length-map p.nodes (node_shape p.types p.classes)) (closed_of p sound few).roots

-- parts with other roots
abbrev pub with_roots : List Value → Parts → Parts
with_roots roots p = record p { roots = roots }

pub first_sound : (p : Parts) → IsSound p → length p.nodes < 2 ^ 32 → IsSound (with_roots (get_or p.roots 0 values.Null ∷ []) p)
first_sound p sound few = sound_of (with_roots (get_or p.roots 0 values.Null ∷ []) p) (first_closed (shape_of p) (closed_of p sound few)) (there_of p sound)

pub none_sound : (p : Parts) → IsSound p → length p.nodes < 2 ^ 32 → IsSound (with_roots [] p)
none_sound p sound few =
    let closed = closed_of p sound few in
    sound_of (with_roots [] p) (record { few = closed.few; roots = λ k d h. absurd (omega (arith, h)); each = λ n h. closed.each n h }) (there_of p sound)

-- parts with one more node, as the one root
abbrev pub with_node : Parts → Node → Parts
with_node p node = record p { roots = values.Node (length p.nodes) ∷ []; nodes = p.nodes ++ node ∷ [] }

pub node_grown : (p : Parts) (node : Node) → shape_of (with_node p node) ≡ grown p node
node_grown p node =
    let count : length (shape_of p).nodes ≡ length p.nodes = length-map p.nodes (node_shape p.types p.classes) in
    ap (λ (ns : List NodeShape). record { roots = values.Node (length p.nodes) ∷ []; nodes = ns }) (map-append (node_shape p.types p.classes) p.nodes (node ∷ []))
    ∙ ap (λ n. record { roots = values.Node n ∷ []; nodes = map (node_shape p.types p.classes) p.nodes ++ node_shape p.types p.classes node ∷ [] }) (sym count)

there_more : (p : Parts) (node : Node) → IsSound p → NamesThere p.types p.classes node → AllThere p.types p.classes (p.nodes ++ node ∷ [])
there_more p node sound there n h = elim (cases_lt n (length p.nodes)) [
  | inl before ↦ subst (NamesThere p.types p.classes) (sym (front_get p.nodes (node ∷ []) n no_vertex before)) (there_of p sound n before)
  | inr past ↦
      let long = length-append p.nodes (node ∷ []) in
      let at : length p.nodes ≡ n = omega (arith, h, past, long) in
      subst (λ i. NamesThere p.types p.classes (get_or (p.nodes ++ node ∷ []) i no_vertex)) at
      (subst (NamesThere p.types p.classes) (sym (last_get p.nodes node no_vertex)) there)
]

pub node_sound : (p : Parts) (node : Node) → IsSound p → suc (length p.nodes) < 2 ^ 32 → CanAdd p node → IsSound (with_node p node)
node_sound p node sound few can =
    let count : length (shape_of p).nodes ≡ length p.nodes = length-map p.nodes (node_shape p.types p.classes) in
    let closed = closed_of p sound (omega (arith, few)) in
    sound_of (with_node p node)
    (subst IsClosed (sym (node_grown p node)) (new_closed (shape_of p) closed (kind_of p.types p.classes node) (values_of node) (omega (arith, few, count)) (subst (λ n. All (NamesBelow (suc n)) (values_of node)) (sym count) can.below)))
    (there_more p node sound can.there)

-- more classes leave the nodes as they are
there_classed : (types : List Text) (classes : List Class) (class : Class) (node : Node) → NamesThere types classes node → NamesThere types (classes ++ class ∷ []) node
there_classed types classes class (nodes.List t items) there = there
there_classed types classes class (nodes.Map t pairs) there = there
there_classed types classes class (nodes.Object c vs) there =
    let h = there.below in
    let long = length-append classes (class ∷ []) in
    record { below = omega (arith, h, long); count_is = there.count_is ∙ ap (λ (k : Class). length k.fields) (sym (front_get classes (class ∷ []) c no_class there.below)) }

shape_classed : (types : List Text) (classes : List Class) (class : Class) (node : Node) → NamesThere types classes node → node_shape types (classes ++ class ∷ []) node ≡ node_shape types classes node
shape_classed types classes class (nodes.List t items) there = refl
shape_classed types classes class (nodes.Map t pairs) there = refl
shape_classed types classes class (nodes.Object c vs) there = ap (λ k. record { kind = ObjectKind k; values = vs }) (front_get classes (class ∷ []) c no_class there.below)

all_classed : (types : List Text) (classes : List Class) (class : Class) (ns : List Node) → AllThere types classes ns → map (node_shape types (classes ++ class ∷ [])) ns ≡ map (node_shape types classes) ns
all_classed types classes class [] there = refl
all_classed types classes class (node ∷ ns) there =
    ap (λ x. x ∷ map (node_shape types (classes ++ class ∷ [])) ns) (shape_classed types classes class node (there 0 (omega arith)))
    ∙ ap (λ xs. node_shape types classes node ∷ xs) (all_classed types classes class ns (λ n h. there (suc n) (omega (arith, h))))

pub class_shape : (p : Parts) (class : Class) → IsSound p → shape_of (with_class p class) ≡ shape_of p
class_shape p class sound = ap (λ (ns : List NodeShape). record { roots = p.roots; nodes = ns }) (all_classed p.types p.classes class p.nodes (there_of p sound))

pub class_sound : (p : Parts) (class : Class) → IsSound p → length p.nodes < 2 ^ 32 → IsSound (with_class p class)
class_sound p class sound few = sound_of (with_class p class) (subst IsClosed (sym (class_shape p class sound)) (closed_of p sound few)) (λ n h. there_classed p.types p.classes class (get_or p.nodes n no_vertex) (there_of p sound n h))

-- an object that has itself and the first argument can be added behind its class
abbrev pub knot_node : Parts → Node
knot_node p = nodes.Object (length p.classes) (values.Node (length p.nodes) ∷ get_or p.roots 0 values.Null ∷ [])

pub knot_can : (p : Parts) → IsSound p → length p.nodes < 2 ^ 32 → CanAdd (with_class p knot_class) (knot_node p)
knot_can p sound few =
    let more : ℕ = suc (length p.nodes) in
    let long = length-append p.classes (knot_class ∷ []) in
    record {
      there = record { below = omega (arith, long); count_is = ap (λ (k : Class). length k.fields) (sym (last_get p.classes knot_class no_class)) };
      below = two_below more (values.Node (length p.nodes)) (get_or p.roots 0 values.Null) (node_below more (length p.nodes) (omega arith))
          (first_below more p.roots (more_below (length p.nodes) more (omega arith) p.roots (roots_below p sound few)));
    }

pub knot_grown : (p : Parts) → IsSound p → grown (with_class p knot_class) (knot_node p) ≡ with_new (ObjectKind knot_class) (values.Node (length p.nodes) ∷ get_or p.roots 0 values.Null ∷ []) (shape_of p)
knot_grown p sound =
    let vs : List Value = values.Node (length p.nodes) ∷ get_or p.roots 0 values.Null ∷ [] in
    ap (λ k. with_new (ObjectKind k) vs (shape_of (with_class p knot_class))) (last_get p.classes knot_class no_class)
    ∙ ap (with_new (ObjectKind knot_class) vs) (class_shape p knot_class sound)

-- tables in the order of first use have no more classes than there are nodes
rises_all : (used : ℕ) (ks : List ℕ) (all : ℕ) → Rises used ks all → all ≤ used + length ks
rises_all used [] all r = omega (arith, r)
rises_all used (k ∷ ks) all (inl (h, r)) = let up = rises_all used ks all r in omega (arith, up)
rises_all used (k ∷ ks) all (inr (e, r)) = let up = rises_all (suc used) ks all r in omega (arith, up)

classes_of : (ns : List Node) → length (flat_map class_number ns) ≤ length ns
classes_of [] = omega arith
classes_of (nodes.List t items ∷ ns) = let up = classes_of ns in omega (arith, up)
classes_of (nodes.Map t pairs ∷ ns) = let up = classes_of ns in omega (arith, up)
classes_of (nodes.Object c vs ∷ ns) = let up = classes_of ns in omega (arith, up)

pub few_classes : (p : Parts) → InOrderOfUse p → length p.classes ≤ length p.nodes
few_classes p tables =
    let up = rises_all 0 (flat_map class_number p.nodes) (length p.classes) tables.classes in
    let most = classes_of p.nodes in
    omega (arith, up, most)
