-- Nodes that have begun, and the table that has them in the form of a graph's nodes.
use Rattle.std.specs.Prelude.{ℕ, suc, ◌<◌, List, [], ◌∷◌, ◌++◌, length, get_or, Bool, false, nat_eq, ◌||◌, if◌then◌else◌}
use Rattle.hessian_graph.specs.declared.value.Value.{Value}
use Rattle.hessian_graph.specs.declared.node.Node.{Node}
use Rattle.hessian_graph.specs.declared.node.Node.TheVariants as nodes
use Rattle.hessian_graph.specs.Shape.{alternately, no_vertex}
use Rattle.hessian_reader.specs.declared.table.Sort.{Sort}
use Rattle.hessian_reader.specs.declared.table.Sort.TheVariants as sorts

-- a node that has begun: what it is, and its values as far as they came; a map's keys and values come alternately
pub record Begun : Type 0 where
  pub sort : Sort
  pub values : List Value

-- the number is one of these
abbrev pub is_among : ℕ → List ℕ → Bool
is_among n [] = false
is_among n (m ∷ ms) = nat_eq n m || is_among n ms

-- what a node of the table shows: a list that stands for a map has its keys and values as items
abbrev pub begun_as : Bool → Node → Begun
begun_as stands (nodes.List k items) = record { sort = if stands then sorts.Map k else sorts.List k; values = items }
begun_as stands (nodes.Map k pairs) = record { sort = sorts.Map k; values = alternately pairs }
begun_as stands (nodes.Object k values) = record { sort = sorts.Object k; values = values }

-- the nodes from this number on, where those of the given numbers are maps
abbrev pub begun_from : List ℕ → ℕ → List Node → List Begun
begun_from maps n [] = []
begun_from maps n (v ∷ vs) = begun_as (is_among n maps) v ∷ begun_from maps (suc n) vs

-- the node is no map: until its pairs are made, a map of the table is a list
abbrev pub HasNoPairs : Node → Type 0
HasNoPairs (nodes.List k items) = Unit {0}
HasNoPairs (nodes.Map k pairs) = ⊥
HasNoPairs (nodes.Object k values) = Unit {0}

-- the numbers of the maps are numbers of nodes, and no node has its pairs yet
pub record IsKept (maps : List ℕ) (vs : List Node) : Type 0 where
  pub low : (i : ℕ) → i < length maps → get_or maps i 0 < length vs
  pub unpaired : (i : ℕ) → i < length vs → HasNoPairs (get_or vs i no_vertex)

-- a list or an object has these values more; a map, of which the table has none, stays as it is
abbrev pub and_items : Node → List Value → Node
and_items (nodes.List k items) vs = nodes.List k (items ++ vs)
and_items (nodes.Map k pairs) vs = nodes.Map k pairs
and_items (nodes.Object k values) vs = nodes.Object k (values ++ vs)
