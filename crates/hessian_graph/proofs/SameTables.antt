-- Parts whose tables stand in the order of first use are equal where their shapes are.
use Rattle.std.proofs.Common.{◌≡◌, ℕ, suc, ◌<◌, ◌≤◌, List, [], ◌∷◌, ◌++◌, length, get_or, refl, ap, sym, ◌∙◌, subst, arith, inl, inr}
use Rattle.std.specs.Prelude.{Option, Some, None, map}
use Rattle.std.specs.List.{flat_map}
use Rattle.std.proofs.lemmas.Bool.{cases_lt}
use Rattle.std.proofs.lemmas.List.{ext_get_or, map-append}
use Rattle.hessian_graph.specs.declared.node.Class.{Class}
use Rattle.hessian_graph.specs.declared.node.Node.{Node}
use Rattle.hessian_graph.specs.declared.node.Node.TheVariants as nodes
use Rattle.hessian_graph.specs.declared.parts.Parts.{Parts}
use Rattle.hessian_graph.specs.Shape.{Text, Kind, ListKind, MapKind, ObjectKind, Shape, NodeShape, type_of, kind_of, node_shape, shape_of, no_class}
use Rattle.hessian_graph.specs.Canon.{Rises, type_number, class_number}
use Rattle.hessian_graph.specs.InUse.{InOrderOfUse}
use Rattle.hessian_graph.specs.Tables.{NumberBelow}
use Rattle.hessian_graph.specs.Moving.{NamesThere, AllThere}
use Rattle.hessian_graph.proofs.Alternately.{alternately_once}

-- no name stands at two places
abbrev Once : {N : Type 0} → N → List N → Type 0
Once none xs = (i j : ℕ) → i < length xs → j < length xs → get_or xs i none ≡ get_or xs j none → i ≡ j

-- the names of these numbers
abbrev named : {N : Type 0} → N → List N → List ℕ → List N
named none xs ns = map (λ n. get_or xs n none) ns

rises_up : (used : ℕ) (ks : List ℕ) (all : ℕ) → Rises used ks all → used ≤ all
rises_up used [] all r = omega (arith, r)
rises_up used (k ∷ ks) all (inl (h, r)) = rises_up used ks all r
rises_up used (k ∷ ks) all (inr (e, r)) = let up = rises_up (suc used) ks all r in omega (arith, up)

module _ {N : Type 0} (none : N) (xs ys : List N) (xs_once : Once none xs) (ys_once : Once none ys) where
  -- the names below these many are the same
  abbrev Agree : ℕ → Type 0
  Agree used = (i : ℕ) → i < used → get_or xs i none ≡ get_or ys i none

  -- one more name is the same
  agree_more : (used k j : ℕ) → Agree used → k ≡ used → j ≡ used → get_or xs k none ≡ get_or ys j none → Agree (suc used)
  agree_more used k j a ek ej e i h = elim (cases_lt i used) [
    | inl before ↦ a i before
    | inr past ↦
        let x : k ≡ i = omega (arith, h, past, ek) in
        let y : j ≡ i = omega (arith, h, past, ej) in
        subst (λ n. get_or xs n none ≡ get_or ys i none) x (subst (λ n. get_or xs k none ≡ get_or ys n none) y e)
  ]

  -- tables that rise by numbers of the same names are equal
  same_table : (used : ℕ) (ks js : List ℕ) → Agree used → Rises used ks (length xs) → Rises used js (length ys) → named none xs ks ≡ named none ys js → xs ≡ ys
  same_table used [] [] a p q e =
      ext_get_or none xs ys (omega (arith, p, q)) (λ i h. a i (omega (arith, p, h)))
  same_table used [] (j ∷ js) a p q e = cc
  same_table used (k ∷ ks) [] a p q e = cc
  same_table used (k ∷ ks) (j ∷ js) a (inl (h, p)) (inl (l, q)) e =
      let rest : named none xs ks ≡ named none ys js = cc in
      same_table used ks js a p q rest
  same_table used (k ∷ ks) (j ∷ js) a (inl (h, p)) (inr (l, q)) e =
      let head : get_or xs k none ≡ get_or ys j none = cc in
      let up = rises_up (suc used) js (length ys) q in
      let is : k ≡ j = ys_once k j (omega (arith, h, up)) (omega (arith, l, up)) (sym (a k h) ∙ head) in
      absurd (omega (arith, is, h, l))
  same_table used (k ∷ ks) (j ∷ js) a (inr (h, p)) (inl (l, q)) e =
      let head : get_or xs k none ≡ get_or ys j none = cc in
      let up = rises_up (suc used) ks (length xs) p in
      let is : k ≡ j = xs_once k j (omega (arith, h, up)) (omega (arith, l, up)) (head ∙ sym (a j l)) in
      absurd (omega (arith, is, h, l))
  same_table used (k ∷ ks) (j ∷ js) a (inr (h, p)) (inr (l, q)) e =
      let head : get_or xs k none ≡ get_or ys j none = cc in
      let rest : named none xs ks ≡ named none ys js = cc in
      same_table (suc used) ks js (agree_more used k j a h l head) p q rest

-- the type that a kind has, and its class
abbrev kind_types : Kind → List Text
kind_types (ListKind None) = []
kind_types (ListKind (Some t)) = t ∷ []
kind_types (MapKind None) = []
kind_types (MapKind (Some t)) = t ∷ []
kind_types (ObjectKind c) = []

abbrev kind_classes : Kind → List Class
kind_classes (ListKind t) = []
kind_classes (MapKind t) = []
kind_classes (ObjectKind c) = c ∷ []

-- the names of a node's numbers are those of its kind
types_named : (types : List Text) (classes : List Class) (node : Node) → named [] types (type_number node) ≡ kind_types (kind_of types classes node)
types_named types classes (nodes.List None items) = refl
types_named types classes (nodes.List (Some k) items) = refl
types_named types classes (nodes.Map None pairs) = refl
types_named types classes (nodes.Map (Some k) pairs) = refl
types_named types classes (nodes.Object c vs) = refl

classes_named : (types : List Text) (classes : List Class) (node : Node) → named no_class classes (class_number node) ≡ kind_classes (kind_of types classes node)
classes_named types classes (nodes.List t items) = refl
classes_named types classes (nodes.Map t pairs) = refl
classes_named types classes (nodes.Object c vs) = refl

all_types_named : (types : List Text) (classes : List Class) (ns : List Node) → named [] types (flat_map type_number ns) ≡ flat_map (λ (x : NodeShape). kind_types x.kind) (map (node_shape types classes) ns)
all_types_named types classes [] = refl
all_types_named types classes (n ∷ ns) =
    map-append (λ k. get_or types k []) (type_number n) (flat_map type_number ns)
    ∙ ap (λ z. z ++ named [] types (flat_map type_number ns)) (types_named types classes n)
    ∙ ap (λ z. kind_types (kind_of types classes n) ++ z) (all_types_named types classes ns)

all_classes_named : (types : List Text) (classes : List Class) (ns : List Node) → named no_class classes (flat_map class_number ns) ≡ flat_map (λ (x : NodeShape). kind_classes x.kind) (map (node_shape types classes) ns)
all_classes_named types classes [] = refl
all_classes_named types classes (n ∷ ns) =
    map-append (λ k. get_or classes k no_class) (class_number n) (flat_map class_number ns)
    ∙ ap (λ z. z ++ named no_class classes (flat_map class_number ns)) (classes_named types classes n)
    ∙ ap (λ z. kind_classes (kind_of types classes n) ++ z) (all_classes_named types classes ns)

-- where the tables are one and have each name once, nodes of one shape are equal
module _ (types : List Text) (classes : List Class) (types_once : Once [] types) (classes_once : Once no_class classes) where
  same_number : (a b : Option ℕ) → NumberBelow (length types) a → NumberBelow (length types) b → type_of types a ≡ type_of types b → a ≡ b
  same_number None None h l e = refl
  same_number None (Some j) h l e = cc
  same_number (Some k) None h l e = cc
  same_number (Some k) (Some j) h l e =
      let name : get_or types k [] ≡ get_or types j [] = cc in
      ap Some (types_once k j h l name)

  same_vertex : (a b : Node) → NamesThere types classes a → NamesThere types classes b → node_shape types classes a ≡ node_shape types classes b → a ≡ b
  same_vertex (nodes.List t items) (nodes.List u others) h l e =
      let kinds : ◌≡◌ {A = Kind} (ListKind (type_of types t)) (ListKind (type_of types u)) = ap (λ (x : NodeShape). x.kind) e in
      let name : type_of types t ≡ type_of types u = cc in
      ap (λ x. nodes.List x items) (same_number t u h l name) ∙ ap (nodes.List u) (ap (λ (x : NodeShape). x.values) e)
  same_vertex (nodes.List t items) (nodes.Map u others) h l e =
      let kinds : ◌≡◌ {A = Kind} (ListKind (type_of types t)) (MapKind (type_of types u)) = ap (λ (x : NodeShape). x.kind) e in
      cc
  same_vertex (nodes.List t items) (nodes.Object d others) h l e =
      let kinds : ◌≡◌ {A = Kind} (ListKind (type_of types t)) (ObjectKind (get_or classes d no_class)) = ap (λ (x : NodeShape). x.kind) e in
      cc
  same_vertex (nodes.Map t pairs) (nodes.List u others) h l e =
      let kinds : ◌≡◌ {A = Kind} (MapKind (type_of types t)) (ListKind (type_of types u)) = ap (λ (x : NodeShape). x.kind) e in
      cc
  same_vertex (nodes.Map t pairs) (nodes.Map u others) h l e =
      let kinds : ◌≡◌ {A = Kind} (MapKind (type_of types t)) (MapKind (type_of types u)) = ap (λ (x : NodeShape). x.kind) e in
      let name : type_of types t ≡ type_of types u = cc in
      ap (λ x. nodes.Map x pairs) (same_number t u h l name) ∙ ap (nodes.Map u) (alternately_once pairs others (ap (λ (x : NodeShape). x.values) e))
  same_vertex (nodes.Map t pairs) (nodes.Object d others) h l e =
      let kinds : ◌≡◌ {A = Kind} (MapKind (type_of types t)) (ObjectKind (get_or classes d no_class)) = ap (λ (x : NodeShape). x.kind) e in
      cc
  same_vertex (nodes.Object c vs) (nodes.List u others) h l e =
      let kinds : ◌≡◌ {A = Kind} (ObjectKind (get_or classes c no_class)) (ListKind (type_of types u)) = ap (λ (x : NodeShape). x.kind) e in
      cc
  same_vertex (nodes.Object c vs) (nodes.Map u others) h l e =
      let kinds : ◌≡◌ {A = Kind} (ObjectKind (get_or classes c no_class)) (MapKind (type_of types u)) = ap (λ (x : NodeShape). x.kind) e in
      cc
  same_vertex (nodes.Object c vs) (nodes.Object d others) h l e =
      let kinds : ◌≡◌ {A = Kind} (ObjectKind (get_or classes c no_class)) (ObjectKind (get_or classes d no_class)) = ap (λ (x : NodeShape). x.kind) e in
      let name : get_or classes c no_class ≡ get_or classes d no_class = cc in
      ap (λ x. nodes.Object x vs) (classes_once c d h.below l.below name) ∙ ap (nodes.Object d) (ap (λ (x : NodeShape). x.values) e)

  same_vertices : (ns ms : List Node) → AllThere types classes ns → AllThere types classes ms → map (node_shape types classes) ns ≡ map (node_shape types classes) ms → ns ≡ ms
  same_vertices [] [] h l e = refl
  same_vertices [] (m ∷ ms) h l e = cc
  same_vertices (n ∷ ns) [] h l e = cc
  same_vertices (n ∷ ns) (m ∷ ms) h l e =
      let head : node_shape types classes n ≡ node_shape types classes m = cc in
      let rest : map (node_shape types classes) ns ≡ map (node_shape types classes) ms = cc in
      let one : n ≡ m = same_vertex n m (h 0 (omega arith)) (l 0 (omega arith)) head in
      let more : ns ≡ ms = same_vertices ns ms (λ i k. h (suc i) (omega (arith, k))) (λ i k. l (suc i) (omega (arith, k))) rest in
      cc

parts_of : (p q : Parts) → p.roots ≡ q.roots → p.nodes ≡ q.nodes → p.types ≡ q.types → p.classes ≡ q.classes → p ≡ q
parts_of p q r n t c =
    ap (λ x. record { roots = x; nodes = p.nodes; types = p.types; classes = p.classes }) r
    ∙ ap (λ x. record { roots = q.roots; nodes = x; types = p.types; classes = p.classes }) n
    ∙ ap (λ x. record { roots = q.roots; nodes = q.nodes; types = x; classes = p.classes }) t
    ∙ ap (λ x. record { roots = q.roots; nodes = q.nodes; types = q.types; classes = x }) c

-- parts of one shape, with tables in the order of first use, are equal
pub same_in_order : (p q : Parts) → InOrderOfUse p → InOrderOfUse q → AllThere p.types p.classes p.nodes → AllThere q.types q.classes q.nodes → shape_of p ≡ shape_of q → p ≡ q
same_in_order p q a b there others e =
    let images : map (node_shape p.types p.classes) p.nodes ≡ map (node_shape q.types q.classes) q.nodes = ap (λ (s : Shape). s.nodes) e in
    let types : p.types ≡ q.types = same_table [] p.types q.types a.types_once b.types_once 0 (flat_map type_number p.nodes) (flat_map type_number q.nodes) (λ i h. absurd (omega (arith, h))) a.types b.types
    (all_types_named p.types p.classes p.nodes ∙ ap (flat_map (λ (x : NodeShape). kind_types x.kind)) images ∙ sym (all_types_named q.types q.classes q.nodes)) in
    let classes : p.classes ≡ q.classes = same_table no_class p.classes q.classes a.classes_once b.classes_once 0 (flat_map class_number p.nodes) (flat_map class_number q.nodes) (λ i h. absurd (omega (arith, h))) a.classes b.classes
    (all_classes_named p.types p.classes p.nodes ∙ ap (flat_map (λ (x : NodeShape). kind_classes x.kind)) images ∙ sym (all_classes_named q.types q.classes q.nodes)) in
    let back : map (node_shape p.types p.classes) q.nodes ≡ map (node_shape q.types q.classes) q.nodes =
    ap (λ x. map (node_shape x p.classes) q.nodes) types ∙ ap (λ x. map (node_shape q.types x) q.nodes) classes in
    let here : AllThere p.types p.classes q.nodes = subst (λ x. AllThere x p.classes q.nodes) (sym types) (subst (λ x. AllThere q.types x q.nodes) (sym classes) others) in
    parts_of p q (ap (λ (s : Shape). s.roots) e) (same_vertices p.types p.classes a.types_once a.classes_once p.nodes q.nodes there here (images ∙ sym back)) types classes
