-- What a reading has made of the elements that came.
use Rattle.std.specs.Prelude.{ℕ, ◌-◌, List, [], ◌∷◌, ◌++◌, length, get_or, set, Bool, true, false, ◌&&◌, nat_le, nat_eq, if◌then◌else◌, map, Option, Some, None}
use Rattle.hessian_graph.specs.declared.value.Value.{Value}
use Rattle.hessian_graph.specs.declared.value.Value.TheVariants.{Node}
use Rattle.hessian_graph.specs.declared.node.Class.{Class}
use Rattle.hessian_graph.specs.Shape.{Text, Kind, ListKind, MapKind, ObjectKind, NodeShape, Shape, type_of, no_class}
use Rattle.hessian_reader.specs.declared.table.Sort.{Sort}
use Rattle.hessian_reader.specs.declared.table.Sort.TheVariants as sorts
use Rattle.hessian_reader.specs.Nodes.{Begun}
use Rattle.hessian_reader.specs.declared.store.Lacks.{Lacks}
pub use Rattle.hessian_reader.specs.declared.store.Lacks.TheVariants.{ToEnd, Count, Key, Mate}
use Rattle.hessian_reader.specs.declared.store.OpenNode.{OpenNode}
pub use Rattle.hessian_reader.specs.declared.place.Place.{Place}
pub use Rattle.hessian_reader.specs.declared.place.Place.TheVariants.{AtValue, AtDefined, AtReference, AtType, AtLength, AtClass, AtName, AtCount, AtField}
use Rattle.hessian_reader.specs.declared.element.Want.{Want}
use Rattle.hessian_reader.specs.declared.element.Want.TheVariants as wants
use Rattle.hessian_reader.specs.Names.{Names, no_names, and_type, and_class}

-- the roots that came and how many are to come, the nodes that began, and those that lack values, the innermost first
pub record Built : Type 0 where
  pub roots : List Value
  pub wanted : ℕ
  pub nodes : List Begun
  pub open_nodes : List OpenNode

-- with the names, and what comes next
pub record State : Type 0 where
  pub built : Built
  pub names : Names
  pub place : Place

abbrev pub start : ℕ → State
start roots = record {
  built = record { roots = []; wanted = roots; nodes = []; open_nodes = [] };
  names = no_names;
  place = AtValue;
}

-- what stands where no node has begun
abbrev pub no_begun : Begun
no_begun = record { sort = sorts.List None; values = [] }

abbrev pub values_so_far : List Begun → ℕ → List Value
values_so_far nodes n = (get_or nodes n no_begun).values

abbrev pub sort_at : List Begun → ℕ → Sort
sort_at nodes n = (get_or nodes n no_begun).sort

-- the node of this number has one value more
abbrev pub with_item : List Begun → ℕ → Value → List Begun
with_item nodes n v = set nodes n (record { sort = sort_at nodes n; values = values_so_far nodes n ++ v ∷ [] })

-- an open node that lacks one value less, where it lacks any
abbrev pub less_lacking : Lacks → ℕ → Option OpenNode
less_lacking ToEnd n = Some (record { node = n; lacks = ToEnd })
less_lacking (Count k) n = if nat_le k 1 then None else Some (record { node = n; lacks = Count (k - 1) })
less_lacking Key n = Some (record { node = n; lacks = Mate })
less_lacking Mate n = Some (record { node = n; lacks = Key })

-- the same, before the others
abbrev pub one_less : Lacks → ℕ → List OpenNode → List OpenNode
one_less ToEnd n others = record { node = n; lacks = ToEnd } ∷ others
one_less (Count k) n others = if nat_le k 1 then others else (record { node = n; lacks = Count (k - 1) } ∷ others)
one_less Key n others = record { node = n; lacks = Mate } ∷ others
one_less Mate n others = record { node = n; lacks = Key } ∷ others

-- a value goes to the innermost open node, or to the roots
abbrev pub with_value : List OpenNode → Value → Built → Built
with_value [] v b = record b { roots = b.roots ++ v ∷ []; wanted = b.wanted - 1; open_nodes = [] }
with_value (o ∷ others) v b = record b { nodes = with_item b.nodes o.node v; open_nodes = one_less o.lacks o.node others }

-- a node is open, unless it lacks nothing
abbrev pub with_open : Lacks → ℕ → List OpenNode → List OpenNode
with_open ToEnd n others = record { node = n; lacks = ToEnd } ∷ others
with_open (Count k) n others = if nat_eq k 0 then others else (record { node = n; lacks = Count k } ∷ others)
with_open Key n others = record { node = n; lacks = Key } ∷ others
with_open Mate n others = record { node = n; lacks = Mate } ∷ others

-- the next node begins, and has no values yet
abbrev pub with_begun : Lacks → Sort → ℕ → Built → Built
with_begun lacks sort n b = record b { nodes = b.nodes ++ record { sort = sort; values = [] } ∷ []; open_nodes = with_open lacks n b.open_nodes }

-- the next node is a value of the node that it stands in
abbrev pub with_node : Lacks → Sort → Built → Built
with_node lacks sort b = with_begun lacks sort (length b.nodes) (with_value b.open_nodes (Node (length b.nodes)) b)

abbrev pub begins_node : Lacks → Sort → State → State
begins_node lacks sort s = record s { built = with_node lacks sort s.built; place = AtValue }

abbrev pub takes_value : Value → State → State
takes_value v s = record s { built = with_value s.built.open_nodes v s.built; place = AtValue }

abbrev pub moves_to : Place → State → State
moves_to p s = record s { place = p }

abbrev pub closes : List OpenNode → State → State
closes others s = record s { built = record (s.built) { open_nodes = others } }

-- how many fields the class of this number has
abbrev pub field_count : Names → ℕ → ℕ
field_count t k = length (get_or t.classes k no_class).fields

abbrev pub begins_object : ℕ → State → State
begins_object k s = begins_node (Count (field_count s.names k)) (sorts.Object k) s

abbrev pub learns_type : Text → State → State
learns_type text s = record s { names = and_type text s.names }

abbrev pub learns_class : Class → State → State
learns_class class s = record s { names = and_class class s.names; place = AtDefined }

-- so many fields of a class are to come, and it is learnt behind the last
abbrev pub awaits_fields : Class → ℕ → State → State
awaits_fields class k s = if nat_eq k 0 then learns_class class s else moves_to (AtField class k) s

-- which elements a place takes
abbrev pub want_at : Place → Want
want_at AtValue = wants.AnyValue
want_at AtDefined = wants.AnyValue
want_at AtReference = wants.AnInt
want_at (AtType form) = wants.AType
want_at (AtLength type_number) = wants.AnInt
want_at AtClass = wants.AnInt
want_at AtName = wants.AText
want_at (AtCount name) = wants.AnInt
want_at (AtField class k) = wants.AText

abbrev pub lacks_none : List OpenNode → ℕ → Bool
lacks_none [] wanted = nat_eq wanted 0
lacks_none (o ∷ others) wanted = false

abbrev pub is_at_value : Place → Bool
is_at_value AtValue = true
is_at_value AtDefined = false
is_at_value AtReference = false
is_at_value (AtType form) = false
is_at_value (AtLength type_number) = false
is_at_value AtClass = false
is_at_value AtName = false
is_at_value (AtCount name) = false
is_at_value (AtField class k) = false

-- the last root has ended
abbrev pub is_done : State → Bool
is_done s = is_at_value s.place && lacks_none s.built.open_nodes s.built.wanted

-- the kind of a node, with its names put in
abbrev pub kind_named : Names → Sort → Kind
kind_named t (sorts.List k) = ListKind (type_of t.types k)
kind_named t (sorts.Map k) = MapKind (type_of t.types k)
kind_named t (sorts.Object k) = ObjectKind (get_or t.classes k no_class)

abbrev pub node_named : Names → Begun → NodeShape
node_named t b = record { kind = kind_named t b.sort; values = b.values }

-- the graph that came
abbrev pub graph_of : State → Shape
graph_of s = record { roots = s.built.roots; nodes = map (node_named s.names) s.built.nodes }
