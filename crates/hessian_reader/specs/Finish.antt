-- The nodes of a graph, and those of a reading that is done.
use Rattle.std.specs.Prelude.{◌≡◌, ℕ, ◌<◌, List, length, get_or}
use Rattle.hessian_graph.specs.declared.value.Value.{Value}
use Rattle.hessian_graph.specs.declared.node.Node.{Node}
use Rattle.hessian_graph.specs.declared.node.Node.TheVariants as nodes
use Rattle.hessian_graph.specs.declared.parts.Parts.{Parts}
use Rattle.hessian_graph.specs.Faults.{IsSound}
use Rattle.hessian_graph.specs.Shape.{no_vertex, alternately}
use Rattle.hessian_graph.specs.Spells.{ArePairs}
use Rattle.hessian_reader.specs.declared.table.Sort.{Sort}
use Rattle.hessian_reader.specs.declared.table.Sort.TheVariants as sorts
use Rattle.hessian_reader.specs.Nodes.{Begun}
use Rattle.hessian_reader.specs.States.{State, sort_at, values_so_far}

-- the node is of this sort and has these values; a map's, where they are whole pairs
abbrev pub IsNodeOf : Sort → List Value → Node → Type 0
IsNodeOf (sorts.List k) vs node = node ≡ nodes.List k vs
IsNodeOf (sorts.Map k) vs node = ArePairs vs → (pairs : _) × (node ≡ nodes.Map k pairs) × (alternately pairs ≡ vs)
IsNodeOf (sorts.Object k) vs node = node ≡ nodes.Object k vs

-- a list that stands for a map has its pairs, where its items are whole pairs; a map and an object are as they were
abbrev pub GetsPairs : Node → Node → Type 0
GetsPairs (nodes.List k items) new = IsNodeOf (sorts.Map k) items new
GetsPairs (nodes.Map k pairs) new = new ≡ nodes.Map k pairs
GetsPairs (nodes.Object k values) new = new ≡ nodes.Object k values

-- one node for each that had begun
pub record AreNodesOf (begun : List Begun) (ns : List Node) : Type 0 where
  pub as_many : length ns ≡ length begun
  pub each : (i : ℕ) → i < length begun → IsNodeOf (sort_at begun i) (values_so_far begun i) (get_or ns i no_vertex)

-- each map has whole pairs
abbrev pub IsWhole : Sort → List Value → Type 0
IsWhole (sorts.List k) vs = Unit {0}
IsWhole (sorts.Map k) vs = ArePairs vs
IsWhole (sorts.Object k) vs = Unit {0}

abbrev pub MapsAreWhole : State → Type 0
MapsAreWhole s = (i : ℕ) → i < length s.built.nodes → IsWhole (sort_at s.built.nodes i) (values_so_far s.built.nodes i)

-- the parts are made of the state: they are its roots, its nodes and its names
pub record AreParts (s : State) (p : Parts) : Type 0 where
  pub roots : p.roots ≡ s.built.roots
  pub nodes : AreNodesOf s.built.nodes p.nodes
  pub types : p.types ≡ s.names.types
  pub classes : p.classes ≡ s.names.classes

-- parts that are made of the state are sound
abbrev pub MakesSound : State → Type 0
MakesSound s = (p : Parts) → AreParts s p → IsSound p
