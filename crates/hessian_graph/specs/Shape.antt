-- A graph as contracts see it: roots and numbered nodes, with the names of types and classes put in.
use Rattle.std.specs.Prelude.{ℕ, List, [], ◌∷◌, map, get_or, Option, Some, None}
use Rattle.hessian_graph.specs.declared.value.Value.{Value}
use Rattle.hessian_graph.specs.declared.value.Value.TheVariants as values
use Rattle.hessian_graph.specs.declared.value.Pair.{Pair}
use Rattle.hessian_graph.specs.declared.node.Node.{Node}
use Rattle.hessian_graph.specs.declared.node.Node.TheVariants as nodes
use Rattle.hessian_graph.specs.declared.node.Class.{Class}
use Rattle.hessian_graph.specs.declared.parts.Parts.{Parts}

-- a text, as its bytes in UTF-8
abbrev pub Text : Type 0
Text = List ℕ

-- what a node is: a list or a map with its type or none, or an object with its class
pub data Kind : Type 0 where
  ListKind : Option Text → Kind
  MapKind : Option Text → Kind
  ObjectKind : Class → Kind

-- a node's kind and its values, which are a map's keys and values alternately
pub record NodeShape : Type 0 where
  pub kind : Kind
  pub values : List Value

-- roots, and nodes that are numbered from 0
pub record Shape : Type 0 where
  pub roots : List Value
  pub nodes : List NodeShape

-- the number of the node that a value names
abbrev pub node_of : Value → Option ℕ
node_of values.Null = None
node_of (values.Bool b) = None
node_of (values.Int i) = None
node_of (values.Long l) = None
node_of (values.Date d) = None
node_of (values.Text t) = None
node_of (values.Bytes bs) = None
node_of (values.Node n) = Some n

-- what stands where there is no node
abbrev pub no_node : NodeShape
no_node = record { kind = ListKind None; values = [] }

-- the values of a node
abbrev pub values_at : Shape → ℕ → List Value
values_at g n = (get_or g.nodes n no_node).values

-- the kind of a node
abbrev pub kind_at : Shape → ℕ → Kind
kind_at g n = (get_or g.nodes n no_node).kind

abbrev pub no_class : Class
no_class = record { name = []; fields = [] }

-- keys and values alternately
abbrev pub alternately : List Pair → List Value
alternately [] = []
alternately (p ∷ ps) = p.key ∷ p.value ∷ alternately ps

-- the values of a node of the parts
abbrev pub values_of : Node → List Value
values_of (nodes.List type_name items) = items
values_of (nodes.Map type_name pairs) = alternately pairs
values_of (nodes.Object class vs) = vs

-- what stands among the parts' nodes where there is none
abbrev pub no_vertex : Node
no_vertex = nodes.List None []

-- the type of a number, where there is a number
abbrev pub type_of : List Text → Option ℕ → Option Text
type_of types None = None
type_of types (Some k) = Some (get_or types k [])

abbrev pub kind_of : List Text → List Class → Node → Kind
kind_of types classes (nodes.List type_name items) = ListKind (type_of types type_name)
kind_of types classes (nodes.Map type_name pairs) = MapKind (type_of types type_name)
kind_of types classes (nodes.Object class vs) = ObjectKind (get_or classes class no_class)

abbrev pub node_shape : List Text → List Class → Node → NodeShape
node_shape types classes node = record { kind = kind_of types classes node; values = values_of node }

-- the graph that parts are, with the names put in
abbrev pub shape_of : Parts → Shape
shape_of p = record { roots = p.roots; nodes = map (node_shape p.types p.classes) p.nodes }
