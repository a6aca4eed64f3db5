-- Leaves and references that lie whole in a piece, taken one after another for the innermost open node.
use Rattle.std.specs.Prelude.{◌≡◌, ℕ, ◌-◌, ◌<◌, ◌≤◌, List, [], ◌∷◌, ◌++◌, length, take, set, nat_le, if◌then◌else◌, ◌⊎◌, Option, Some, None, pos}
use Rattle.hessian_graph.specs.declared.value.Value.{Value}
use Rattle.hessian_graph.specs.declared.value.Value.TheVariants.{Node}
use Rattle.hessian_reader.specs.declared.element.Element.TheVariants as elements
use Rattle.hessian_reader.specs.declared.element.Head.TheVariants as heads
use Rattle.hessian_reader.specs.declared.element.Want.TheVariants as wants
use Rattle.hessian_reader.specs.declared.values.Taken.{Taken}
use Rattle.hessian_graph.specs.declared.node.Node.{Node as Vertex}
use Rattle.hessian_reader.specs.Nodes.{Begun, and_items}
use Rattle.hessian_reader.specs.declared.store.OpenNode.{OpenNode}
use Rattle.hessian_reader.specs.Elements.{IsElement}
use Rattle.hessian_reader.specs.States.{Built, Count, sort_at, values_so_far}

-- these values, one behind another, have these bytes: leaves, and references to the nodes that have begun, of which there are so many
pub data AreValues (nodes : ℕ) : List Value → List ℕ → Type 0 where
  none : AreValues nodes [] []
  leaf : (vs more : List Value) (v : Value) (front element bytes : List ℕ) → AreValues nodes vs front → IsElement wants.AnyValue element (elements.Plain v) → more ≡ vs ++ v ∷ [] → bytes ≡ front ++ element → AreValues nodes more bytes
  reference : (vs more : List Value) (n : ℕ) (front code number bytes : List ℕ) → AreValues nodes vs front → IsElement wants.AnyValue code (elements.Code heads.Refer) → IsElement wants.AnInt number (elements.Number (pos n)) → n < nodes → more ≡ vs ++ Node n ∷ [] → bytes ≡ front ++ (code ++ number) → AreValues nodes more bytes

-- Values at the front of a piece were taken, no more than so many, and what grew has them more. There are so many nodes.
pub record Grows (nodes : ℕ) (piece : List ℕ) (most : ℕ) (taken : Taken) (has_more : List Value → Type 0) : Type 0 where
  pub added : List Value
  pub values : AreValues nodes added (take taken.bytes piece)
  pub is : has_more added
  pub count : taken.values ≡ length added
  pub few : taken.values ≤ most
  pub within : taken.bytes ≤ length piece

-- a list of values
abbrev pub AddsValues : ℕ → List Value → List ℕ → ℕ → List Value → Taken → Type 0
AddsValues nodes old piece most new taken = Grows nodes piece most taken (λ vs. new ≡ old ++ vs)

-- a node of the table
abbrev pub GrowsBy : ℕ → Vertex → List ℕ → ℕ → Vertex → Taken → Type 0
GrowsBy nodes old piece most new taken = Grows nodes piece most taken (λ vs. new ≡ and_items old vs)

-- the value at the front of a piece was added, and ends behind so many bytes
pub record AddsOne (nodes : ℕ) (old : List Value) (piece : List ℕ) (new : List Value) (used : ℕ) : Type 0 where
  pub value : Value
  pub values : AreValues nodes (value ∷ []) (take used piece)
  pub is : new ≡ old ++ value ∷ []
  pub within : used ≤ length piece

-- the same, or nothing was added
abbrev pub AddsNext : ℕ → List Value → List ℕ → List Value → Option ℕ → Type 0
AddsNext nodes old piece new (Some used) = AddsOne nodes old piece new used
AddsNext nodes old piece new None = new ≡ old

-- the node of this number has these values more
abbrev pub with_items : List Begun → ℕ → List Value → List Begun
with_items nodes n vs = set nodes n (record { sort = sort_at nodes n; values = values_so_far nodes n ++ vs })

-- the node of this number
abbrev pub PutsInto : List Begun → ℕ → List ℕ → ℕ → List Begun → Taken → Type 0
PutsInto old n piece most new taken = Grows (length old) piece most taken (λ vs. new ≡ with_items old n vs)

-- an open node that lacked so many values has so many more
abbrev pub after_values : ℕ → ℕ → ℕ → List OpenNode → List OpenNode
after_values n left count others = if nat_le left count then others else (record { node = n; lacks = Count (left - count) } ∷ others)

-- values of these bytes went to the innermost open node
pub record GivesValues (old : Built) (bytes : List ℕ) (new : Built) : Type 0 where
  pub node : ℕ
  pub left : ℕ
  pub others : List OpenNode
  pub added : List Value
  pub innermost : old.open_nodes ≡ record { node = node; lacks = Count left } ∷ others
  pub values : AreValues (length old.nodes) added bytes
  pub few : length added ≤ left
  pub some : 0 < left
  pub is : new ≡ record old { nodes = with_items old.nodes node added; open_nodes = after_values node left (length added) others }

-- values of these bytes went to the innermost open node, or nothing was taken
abbrev pub Gives : Built → List ℕ → Built → Type 0
Gives old bytes new = ((new ≡ old) × (bytes ≡ [])) ⊎ GivesValues old bytes new
