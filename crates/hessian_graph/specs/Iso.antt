-- Two graphs that differ in the numbers of their nodes alone.
use Rattle.std.specs.Prelude.{◌≡◌, ℕ, ◌<◌, List, Contains, length, map, get_or, None, ◌⊎◌}
use Rattle.std.specs.List.{AllZip}
use Rattle.hessian_graph.specs.declared.value.Value.{Value}
use Rattle.hessian_graph.specs.declared.value.Value.TheVariants.{Node}
use Rattle.hessian_graph.specs.Shape.{Shape, node_of, values_at, kind_at}

-- no number stands at two places
abbrev pub StandOnce : List ℕ → Type 0
StandOnce ns = (i j : ℕ) → i < length ns → j < length ns → get_or ns i 0 ≡ get_or ns j 0 → i ≡ j

-- equal and no nodes, or nodes that are a pair
abbrev pub Match : List (ℕ × ℕ) → Value → Value → Type 0
Match pairs v w =
    ((v ≡ w) × (node_of v ≡ None))
    ⊎ ((n : ℕ) × (m : ℕ) × (v ≡ Node n) × (w ≡ Node m) × Contains pairs (n, m))

-- two nodes of one kind, and of equally many values that match place by place
pub record NodesMatch (pairs : List (ℕ × ℕ)) (g h : Shape) (n m : ℕ) : Type 0 where
  pub left : n < length g.nodes
  pub right : m < length h.nodes
  pub kinds : kind_at g n ≡ kind_at h m
  pub values : AllZip (Match pairs) (values_at g n) (values_at h m)

-- the pairs of node numbers match the two graphs
pub record IsIso (pairs : List (ℕ × ℕ)) (g h : Shape) : Type 0 where
  pub left : StandOnce (map (λ p. p.0) pairs)
  pub right : StandOnce (map (λ p. p.1) pairs)
  pub roots : AllZip (Match pairs) g.roots h.roots
  pub nodes : (n m : ℕ) → Contains pairs (n, m) → NodesMatch pairs g h n m

-- some list of pairs of node numbers matches the two graphs
abbrev pub Iso : Shape → Shape → Type 0
Iso g h = (pairs : List (ℕ × ℕ)) × IsIso pairs g h
