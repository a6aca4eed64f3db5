-- The canonical form: the reached nodes, in the order of a first visit.
use Rattle.std.specs.Prelude.{◌≡◌, ℕ, suc, ◌<◌, List, [], ◌∷◌, ◌++◌, map, nat_eq, if◌then◌else◌, Option, Some, None, ◌⊎◌}
use Rattle.hessian_graph.specs.declared.value.Value.{Value}
use Rattle.hessian_graph.specs.declared.value.Value.TheVariants as values
use Rattle.hessian_graph.specs.declared.node.Node.{Node}
use Rattle.hessian_graph.specs.declared.node.Node.TheVariants as nodes
use Rattle.hessian_graph.specs.Shape.{Shape, NodeShape, node_of, values_at, kind_at}

abbrev pub one_later : Option ℕ → Option ℕ
one_later None = None
one_later (Some k) = Some (suc k)

-- the first place of a number in a list, counted from 0
abbrev pub place_of : ℕ → List ℕ → Option ℕ
place_of n [] = None
place_of n (x ∷ xs) = if nat_eq n x then Some 0 else one_later (place_of n xs)

-- From the nodes seen so far, through these values, to all nodes seen: depth first.
pub data Visit (g : Shape) : List ℕ → List Value → List ℕ → Type 0 where
  done : (seen : List ℕ) → Visit g seen [] seen
  plain : (seen out : List ℕ) (v : Value) (rest : List Value) → node_of v ≡ None → Visit g seen rest out → Visit g seen (v ∷ rest) out
  again : (seen out : List ℕ) (v : Value) (rest : List Value) (n k : ℕ) → node_of v ≡ Some n → place_of n seen ≡ Some k → Visit g seen rest out → Visit g seen (v ∷ rest) out
  first : (seen out : List ℕ) (v : Value) (rest : List Value) (n : ℕ) → node_of v ≡ Some n → place_of n seen ≡ None → Visit g (seen ++ n ∷ []) (values_at g n ++ rest) out → Visit g seen (v ∷ rest) out

-- a number that no list has is left open
abbrev pub place_or_zero : Option ℕ → ℕ
place_or_zero None = 0
place_or_zero (Some k) = k

-- a value under the numbers that the order gives
abbrev pub renumbered : List ℕ → Value → Value
renumbered order values.Null = values.Null
renumbered order (values.Bool b) = values.Bool b
renumbered order (values.Int i) = values.Int i
renumbered order (values.Long l) = values.Long l
renumbered order (values.Date d) = values.Date d
renumbered order (values.Text t) = values.Text t
renumbered order (values.Bytes bs) = values.Bytes bs
renumbered order (values.Node n) = values.Node (place_or_zero (place_of n order))

-- a node under these numbers
abbrev pub moved : Shape → List ℕ → ℕ → NodeShape
moved g order n = record { kind = kind_at g n; values = map (renumbered order) (values_at g n) }

-- the nodes of this order alone, each numbered by its place
abbrev pub in_order : Shape → List ℕ → Shape
in_order g order = record { roots = map (renumbered order) g.roots; nodes = map (moved g order) order }

-- h is the canonical form of g
abbrev pub IsCanon : Shape → Shape → Type 0
IsCanon g h = (order : List ℕ) × Visit g [] g.roots order × (h ≡ in_order g order)

-- each number is below those used so far or the next one, and so many are used in the end
abbrev pub Rises : ℕ → List ℕ → ℕ → Type 0
Rises used [] all = used ≡ all
Rises used (k ∷ ks) all = ((k < used) × Rises used ks all) ⊎ ((k ≡ used) × Rises (suc used) ks all)

abbrev pub given_number : Option ℕ → List ℕ
given_number None = []
given_number (Some k) = k ∷ []

-- the number of a node's type
abbrev pub type_number : Node → List ℕ
type_number (nodes.List type_name items) = given_number type_name
type_number (nodes.Map type_name pairs) = given_number type_name
type_number (nodes.Object class vs) = []

-- the number of a node's class
abbrev pub class_number : Node → List ℕ
class_number (nodes.List type_name items) = []
class_number (nodes.Map type_name pairs) = []
class_number (nodes.Object class vs) = class ∷ []
