-- Nodes under new numbers, and what makes them sound.
use Rattle.std.specs.Prelude.{◌≡◌, ℕ, ◌<◌, List, length, map, get_or, All, Option, Some, None, IsSome}
use Rattle.std.specs.List.{AllZip, flat_map}
use Rattle.hessian_graph.specs.declared.value.Pair.{Pair}
use Rattle.hessian_graph.specs.declared.node.Node.{Node}
use Rattle.hessian_graph.specs.declared.node.Node.TheVariants as nodes
use Rattle.hessian_graph.specs.declared.node.Class.{Class}
use Rattle.hessian_graph.specs.declared.names.Names.{Names}
use Rattle.hessian_graph.specs.declared.parts.Parts.{Parts}
use Rattle.hessian_graph.specs.Shape.{Text, NodeShape, no_class, no_vertex, values_of, kind_of, node_shape}
use Rattle.hessian_graph.specs.Canon.{renumbered, type_number, class_number, Rises}
use Rattle.hessian_graph.specs.Tables.{TypesFit, ClassesFit, NumberBelow, renamed_numbers}
use Rattle.hessian_graph.specs.Work.{NamesBelow}

-- an object has as many values as its class has fields
pub record ClassFits (classes : List Class) (class count : ℕ) : Type 0 where
  pub below : class < length classes
  pub count_is : count ≡ length (get_or classes class no_class).fields

-- a node's type or class is there
abbrev pub NamesThere : List Text → List Class → Node → Type 0
NamesThere types classes (nodes.List type_name items) = NumberBelow (length types) type_name
NamesThere types classes (nodes.Map type_name pairs) = NumberBelow (length types) type_name
NamesThere types classes (nodes.Object class vs) = ClassFits classes class (length vs)

-- a new number is known for a type, where there is one
abbrev pub TypeKnown : List (Option ℕ) → Option ℕ → Type 0
TypeKnown known None = Unit {0}
TypeKnown known (Some k) = IsSome (get_or known k None)

-- a new number is known for the node's type or class
abbrev pub NodeKnown : List (Option ℕ) → List (Option ℕ) → Node → Type 0
NodeKnown types classes (nodes.List type_name items) = TypeKnown types type_name
NodeKnown types classes (nodes.Map type_name pairs) = TypeKnown types type_name
NodeKnown types classes (nodes.Object class vs) = IsSome (get_or classes class None)

-- the tables of new names fit the old ones
pub record NamesFit (p : Parts) (n : Names) : Type 0 where
  pub types : TypesFit p.types n.types
  pub classes : ClassesFit p.classes n.classes

-- the key and the value of each pair name nodes below the count
abbrev pub PairsBelow : ℕ → List Pair → Type 0
PairsBelow count pairs = All (λ (p : Pair). NamesBelow count p.key × NamesBelow count p.value) pairs

-- what the node is to be under the new numbers of nodes
abbrev pub moved_shape : List Text → List Class → List ℕ → Node → NodeShape
moved_shape types classes order node = record { kind = kind_of types classes node; values = map (renumbered order) (values_of node) }

-- the new node is the old one, its type or class is there, and its number is the known one
pub record IsMoved (p : Parts) (n : Names) (order : List ℕ) (old new : Node) : Type 0 where
  pub shape : node_shape n.types.words.texts.items n.classes.rows.items new ≡ moved_shape p.types p.classes order old
  pub there : NamesThere n.types.words.texts.items n.classes.rows.items new
  pub types : type_number new ≡ renamed_numbers n.types.known.items (type_number old)
  pub classes : class_number new ≡ renamed_numbers n.classes.known.items (class_number old)

-- each node of the parts has its type or class
abbrev pub AllThere : List Text → List Class → List Node → Type 0
AllThere types classes ns = (n : ℕ) → n < length ns → NamesThere types classes (get_or ns n no_vertex)

-- new numbers are known for the types and classes of these nodes
abbrev pub AllKnown : Parts → Names → List ℕ → Type 0
AllKnown p n order = (i : ℕ) → i < length order → NodeKnown n.types.known.items n.classes.known.items (get_or p.nodes (get_or order i 0) no_vertex)

-- each number is one of the parts' nodes
abbrev pub AllNodes : Parts → List ℕ → Type 0
AllNodes p order = (i : ℕ) → i < length order → get_or order i 0 < length p.nodes

-- the nodes of these numbers, moved in order
abbrev pub AllMoved : Parts → Names → List ℕ → List ℕ → List Node → Type 0
AllMoved p n order olds news = AllZip (λ i new. IsMoved p n order (get_or p.nodes i no_vertex) new) olds news

-- the numbers of the types, and of the classes, of these nodes
abbrev pub types_used : Parts → List ℕ → List ℕ
types_used p order = flat_map (λ i. type_number (get_or p.nodes i no_vertex)) order

abbrev pub classes_used : Parts → List ℕ → List ℕ
classes_used p order = flat_map (λ i. class_number (get_or p.nodes i no_vertex)) order

-- the tables have the names of these nodes in the order of first use
pub record TablesRise (p : Parts) (n : Names) (order : List ℕ) : Type 0 where
  pub types : Rises 0 (renamed_numbers n.types.known.items (types_used p order)) (length n.types.words.texts.items)
  pub classes : Rises 0 (renamed_numbers n.classes.known.items (classes_used p order)) (length n.classes.rows.items)

-- the tables go on by the names of one node
pub record NamesNext (old new : Names) (node : Node) : Type 0 where
  pub types : Rises (length old.types.words.texts.items) (renamed_numbers new.types.known.items (type_number node)) (length new.types.words.texts.items)
  pub classes : Rises (length old.classes.rows.items) (renamed_numbers new.classes.known.items (class_number node)) (length new.classes.rows.items)
