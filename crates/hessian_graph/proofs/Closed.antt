-- Sound parts name nodes that are there.
use Rattle.std.proofs.Common.{◌≡◌, ℕ, zero, suc, ◌<◌, ◌^◌, List, [], ◌∷◌, ◌++◌, length, get_or, refl, sym, subst, arith, inl, inr}
use Rattle.std.specs.Prelude.{nat_eq, if◌then◌else◌, Option, Some, None, map, All}
use Rattle.std.specs.List.{flat_map}
use Rattle.std.proofs.lemmas.Bool.{cases_lt, cases_eq, lt-ltb, le-ltb, ne_eqb}
use Rattle.std.proofs.lemmas.List.{length-map}
use Rattle.hessian_graph.specs.declared.value.Value.{Value}
use Rattle.hessian_graph.specs.declared.node.Node.{Node}
use Rattle.hessian_graph.specs.declared.node.Node.TheVariants as nodes
use Rattle.hessian_graph.specs.declared.parts.Parts.{Parts}
use Rattle.hessian_graph.specs.declared.parts.PartsFault.{PartsFault}
use Rattle.hessian_graph.specs.declared.parts.PartsFault.TheVariants.{BadNode, BadTypeName, BadClass, BadFieldCount}
use Rattle.hessian_graph.specs.Shape.{no_node, node_of, values_at, values_of, alternately, node_shape, shape_of}
use Rattle.hessian_graph.specs.Faults.{unless_below, value_faults, class_faults, node_faults, faults_from, IsSound}
use Rattle.hessian_graph.specs.Shape.{no_class}
use Rattle.hessian_graph.specs.Tables.{NumberBelow}
use Rattle.hessian_graph.specs.Moving.{ClassFits, NamesThere, AllThere}
use Rattle.hessian_graph.specs.declared.node.Class.{Class}
use Rattle.hessian_graph.specs.Work.{NamesBelow, IsClosed}

front_none : (xs ys : List PartsFault) → xs ++ ys ≡ [] → xs ≡ []
front_none [] ys e = refl
front_none (x ∷ xs) ys e = cc

pub back_none : (xs ys : List PartsFault) → xs ++ ys ≡ [] → ys ≡ []
back_none [] ys e = e
back_none (x ∷ xs) ys e = cc

some_below : (count : ℕ) (o : Option ℕ) → unless_below BadNode count o ≡ [] → (n : ℕ) → o ≡ Some n → n < count
some_below count None clean n e = cc
some_below count (Some k) clean n e = elim (cases_lt k count) [
  | inl below ↦ let s : k ≡ n = cc in subst (λ i. i < count) s below
  | inr past ↦ let bad : BadNode k ∷ [] ≡ [] = (rw (le-ltb k count past) at clean) in cc
]

values_below : (count : ℕ) (vs : List Value) → flat_map (value_faults count) vs ≡ [] → All (NamesBelow count) vs
values_below count [] clean k d h = absurd (omega arith)
values_below count (v ∷ vs) clean zero d h = some_below count (node_of v) (front_none (value_faults count v) (flat_map (value_faults count) vs) clean)
values_below count (v ∷ vs) clean (suc k) d h = values_below count vs (back_none (value_faults count v) (flat_map (value_faults count) vs) clean) k d (omega arith)

node_below : (p : Parts) (number : ℕ) (node : Node) → node_faults p number node ≡ [] → All (NamesBelow (length p.nodes)) (values_of node)
node_below p number (nodes.List type_name items) clean = values_below (length p.nodes) items (back_none _ _ clean)
node_below p number (nodes.Map type_name pairs) clean = values_below (length p.nodes) (alternately pairs) (back_none _ _ clean)
node_below p number (nodes.Object class vs) clean = values_below (length p.nodes) vs (back_none _ _ clean)

nodes_below : (p : Parts) (number : ℕ) (ns : List Node) → faults_from p number ns ≡ [] → (n : ℕ) → n < length ns → All (NamesBelow (length p.nodes)) (get_or (map (node_shape p.types p.classes) ns) n no_node).values
nodes_below p number [] clean n h = absurd (omega arith)
nodes_below p number (node ∷ ns) clean zero h = node_below p number node (front_none (node_faults p number node) (faults_from p (suc number) ns) clean)
nodes_below p number (node ∷ ns) clean (suc n) h = nodes_below p (suc number) ns (back_none (node_faults p number node) (faults_from p (suc number) ns) clean) n (omega arith)

pub closed_of : (p : Parts) → IsSound p → length p.nodes < 2 ^ 32 → IsClosed (shape_of p)
closed_of p sound few =
    let count : length (shape_of p).nodes ≡ length p.nodes = length-map p.nodes (node_shape p.types p.classes) in
    let roots = front_none (flat_map (value_faults (length p.nodes)) p.roots) (faults_from p 0 p.nodes) sound in
    let rest = back_none (flat_map (value_faults (length p.nodes)) p.roots) (faults_from p 0 p.nodes) sound in
    record {
      few = omega (arith, count, few);
      roots = subst (λ x. All (NamesBelow x) p.roots) (sym count) (values_below (length p.nodes) p.roots roots);
      each = λ n h. subst (λ x. All (NamesBelow x) (values_at (shape_of p) n)) (sym count) (nodes_below p 0 p.nodes rest n (omega (arith, count, h)));
    }

type_there : (count : ℕ) (o : Option ℕ) → unless_below BadTypeName count o ≡ [] → NumberBelow count o
type_there count None clean = tt
type_there count (Some k) clean = elim (cases_lt k count) [
  | inl below ↦ below
  | inr past ↦ let bad : BadTypeName k ∷ [] ≡ [] = (rw (le-ltb k count past) at clean) in cc
]

class_there : (classes : List Class) (number class count : ℕ) → class_faults classes number class count ≡ [] → ClassFits classes class count
class_there classes number class count clean = elim (cases_lt class (length classes)) [
  | inl below ↦
      let rest : (if nat_eq count (length (get_or classes class no_class).fields) then [] else BadFieldCount number ∷ []) ≡ [] = (rw (lt-ltb class (length classes) below) at clean) in
      record {
        below = below;
        count_is = elim (cases_eq count (length (get_or classes class no_class).fields)) [
          | inl same ↦ same
          | inr other ↦ let bad : BadFieldCount number ∷ [] ≡ [] = (rw (ne_eqb count (length (get_or classes class no_class).fields) other) at rest) in cc
        ];
      }
  | inr past ↦ let bad : BadClass class ∷ [] ≡ [] = (rw (le-ltb class (length classes) past) at clean) in cc
]

node_there : (p : Parts) (number : ℕ) (node : Node) → node_faults p number node ≡ [] → NamesThere p.types p.classes node
node_there p number (nodes.List t items) clean = type_there (length p.types) t (front_none _ _ clean)
node_there p number (nodes.Map t pairs) clean = type_there (length p.types) t (front_none _ _ clean)
node_there p number (nodes.Object c vs) clean = class_there p.classes number c (length vs) (front_none _ _ clean)

-- nodes without faults have their types and classes
pub nodes_there : (p : Parts) (number : ℕ) (ns : List Node) → faults_from p number ns ≡ [] → AllThere p.types p.classes ns
nodes_there p number [] clean n h = absurd (omega (arith, h))
nodes_there p number (node ∷ ns) clean zero h = node_there p number node (front_none (node_faults p number node) (faults_from p (suc number) ns) clean)
nodes_there p number (node ∷ ns) clean (suc n) h = nodes_there p (suc number) ns (back_none (node_faults p number node) (faults_from p (suc number) ns) clean) n (omega (arith, h))
