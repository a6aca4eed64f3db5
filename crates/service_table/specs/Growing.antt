-- Nodes that are put behind the nodes of parts.
use Rattle.std.specs.Prelude.{◌≡◌, ℕ, suc, ◌<◌, Some, [], ◌∷◌, ◌++◌, All, length, get_or}
use Rattle.hessian_graph.specs.declared.node.Node.{Node}
use Rattle.hessian_graph.specs.declared.node.Class.{Class}
use Rattle.hessian_graph.specs.declared.parts.Parts.{Parts}
use Rattle.hessian_graph.specs.Shape.{Shape, node_of, no_vertex, kind_of, values_of, shape_of}
use Rattle.hessian_graph.specs.Moving.{NamesThere}
use Rattle.hessian_graph.specs.Work.{NamesBelow}
use Rattle.service_table.specs.Replies.{first_of, with_new}

-- the type or the class of a node is there, and its values name nodes that are there, or the node itself
pub record CanAdd (p : Parts) (node : Node) : Type 0 where
  pub there : NamesThere p.types p.classes node
  pub below : All (NamesBelow (suc (length p.nodes))) (values_of node)

-- the graph that parts become where this node is added to them as the one root
abbrev pub grown : Parts → Node → Shape
grown p node = with_new (kind_of p.types p.classes node) (values_of node) (shape_of p)

-- the node can be added, and the parts become this graph
pub record AddsAs (p : Parts) (g : Shape) (node : Node) : Type 0 where
  pub can : CanAdd p node
  pub is : grown p node ≡ g

-- the first argument names this node
pub record IsFirstNode (p : Parts) (node : Node) : Type 0 where
  pub number : ℕ
  pub named : node_of (first_of (shape_of p)) ≡ Some number
  pub within : number < length p.nodes
  pub is : node ≡ get_or p.nodes number no_vertex

-- parts with one more class, behind the others
abbrev pub with_class : Parts → Class → Parts
with_class p class = record p { classes = p.classes ++ class ∷ [] }
